-- That the turns of a tray make up what the tray is said to leave.
pub mod Tray
