-- Soundness stays: what a call on a sound state leaves is sound. (A name or a value is a u32, so the third argument is below 2^32.)
use Rattle.std.specs.Prelude.{◌≡◌, true}
use Rattle.session.specs.Sound.{sound}
use Rattle.session.specs.Step.{Outcome}

-- the session and the tables after a call are sound
abbrev pub leaves_sound : Outcome → Type 0
leaves_sound o = sound o.answer.session o.working o.kept ≡ true
