-- On a sound state one call is `core`.
use Rattle.std.specs.Prelude.{◌≡◌, true, List, ℕ}
use Rattle.state.specs.declared.state.Session.{Session}
use Rattle.session.specs.Sound.{sound}
use Rattle.session.specs.Step.{core, step}

module _ (op a b c : ℕ) (x : Session) (w k : List ℕ) where
  pub core_on_sound : sound x w k ≡ true → step op a b c x w k ≡ core op a b c x w k
  unfolding step
  core_on_sound h = rw h
