pub mod Tray
pub mod Quick
