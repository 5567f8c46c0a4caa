-- Soundness stays: what a call on a sound state leaves is sound. (A name or a value is a u32, so the third argument is below 2^32.)
use Rattle.std.specs.Prelude.{◌≡◌, refl, true, List, ℕ, ◌<◌}
use Rattle.std.proofs.Common.{sym, ◌∙◌}
use Rattle.state.specs.declared.state.Session.{Session}
use Rattle.checks.specs.Operations.{operation_of}
use Rattle.session.specs.Sound.{sound}
use Rattle.session.specs.Step.{Outcome, step}
use Rattle.logic.specs.Laws.Bools.{clash}
use Rattle.session.specs.Laws.Range.{passed}
use Rattle.promises.specs.Keeps.SessionFacts.{sound_test}
use Rattle.promises.specs.Keeps.Ways.{Way, unsound, refusing, doing, way}
use Rattle.promises.specs.Keeps.Log.{noted_sound}
use Rattle.promises.specs.Keeps.Done.{done_sound}
use Rattle.promises.specs.Stays.{leaves_sound}

by_way : (op a b c : ℕ) (x : Session) (w k : List ℕ) (o : Outcome) → Way op a b c x w k o → c < 0x1_0000_0000 → sound x w k ≡ true → leaves_sound o
by_way op a b c x w k o (unsound u) l h = clash _ h u
by_way op a b c x w k o (refusing r s e) l h = (sound_test _ w k).passes (noted_sound x op r w k e ((sound_test x w k).holds h))
by_way op a b c x w k o (doing s p e) l h =
    (sound_test _ _ _).passes (done_sound a b c x w k ((sound_test x w k).holds h) l (operation_of op) (passed (operation_of op) a b c x.state w p) e)

pub soundness_stays : (op a b c : ℕ) (x : Session) (w k : List ℕ) → c < 0x1_0000_0000 → sound x w k ≡ true → leaves_sound (step op a b c x w k)
soundness_stays op a b c x w k l h = by_way op a b c x w k (step op a b c x w k) (way op a b c x w k) l h

told_by_way : (op a b c : ℕ) (x : Session) (w k : List ℕ) (o : Outcome) → Way op a b c x w k o → c < 0x1_0000_0000 → sound o.answer.session o.working o.kept ≡ sound x w k
told_by_way op a b c x w k o (unsound u) l = refl
told_by_way op a b c x w k o (refusing r s e) l = by_way op a b c x w k o (refusing r s e) l s ∙ sym s
told_by_way op a b c x w k o (doing s p e) l = by_way op a b c x w k o (doing s p e) l s ∙ sym s

-- what a call leaves is sound exactly if the state was: an unsound one it leaves as it was
pub soundness_told : (op a b c : ℕ) (x : Session) (w k : List ℕ) → c < 0x1_0000_0000
    → sound (step op a b c x w k).answer.session (step op a b c x w k).working (step op a b c x w k).kept ≡ sound x w k
soundness_told op a b c x w k l = told_by_way op a b c x w k (step op a b c x w k) (way op a b c x w k) l
