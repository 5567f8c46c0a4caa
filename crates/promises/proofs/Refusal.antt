-- What a refusal leaves (CHIP, operations): value 0, both tables as they were, and the session with one event more where
-- it records, which holds the refusal and the place of the answer; SY_ERR the session as it came. What is done has no place.
use Rattle.std.specs.Prelude.{◌≡◌, refl, false, List, ℕ, eqb}
use Rattle.std.proofs.Common.{sym, arith, ne_eqb}
use Rattle.state.specs.declared.state.Session.{Session}
use Rattle.state.specs.Refusals.{SY_ERR, done, number_in}
use Rattle.session.specs.Step.{Outcome, step}
use Rattle.session.specs.Laws.Range.{Refusing}
use Rattle.state.specs.Laws.Events.{noted_as_told}
use Rattle.promises.specs.Keeps.Ways.{Way, unsound, refusing, doing, way}
use Rattle.promises.specs.Refusal.{LeftAlone}

not_unsound : (r : ℕ) → Refusing r → eqb (number_in r) SY_ERR ≡ false
not_unsound r h = ne_eqb (number_in r) SY_ERR (λ e. omega (arith, h.from))

by_way : (op a b c : ℕ) (x : Session) (w k : List ℕ) (o : Outcome) → Way op a b c x w k o → (o.answer.refusal ≡ done → ⊥) → LeftAlone op x w k o
by_way op a b c x w k o (unsound h) n = record { value = refl; working = refl; kept = refl; session = refl }
by_way op a b c x w k o (refusing r h e) n = record { value = refl; working = refl; kept = refl; session = rw (not_unsound r e) (sym (noted_as_told x op r)) }
by_way op a b c x w k o (doing h p e) n = absurd (n refl)

pub refusal_leaves_alone : (op a b c : ℕ) (x : Session) (w k : List ℕ)
    → ((step op a b c x w k).answer.refusal ≡ done → ⊥)
    → LeftAlone op x w k (step op a b c x w k)
refusal_leaves_alone op a b c x w k n = by_way op a b c x w k (step op a b c x w k) (way op a b c x w k) n

done_by_way : (op a b c : ℕ) (x : Session) (w k : List ℕ) (o : Outcome) → Way op a b c x w k o → o.answer.refusal ≡ done → o.answer.place ≡ 0
done_by_way op a b c x w k o (unsound h) d = refl
done_by_way op a b c x w k o (refusing r h e) d = absurd (omega (arith, d, e.from))
done_by_way op a b c x w k o (doing h p e) d = refl

-- what is done names no place
pub done_names_no_place : (op a b c : ℕ) (x : Session) (w k : List ℕ) → (step op a b c x w k).answer.refusal ≡ done → (step op a b c x w k).answer.place ≡ 0
done_names_no_place op a b c x w k = done_by_way op a b c x w k (step op a b c x w k) (way op a b c x w k)
