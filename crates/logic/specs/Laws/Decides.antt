-- A test that is passed exactly where a statement holds, and such tests put together: how a definition that computes is read as a statement.
use Rattle.std.specs.Prelude.{◌≡◌, refl, Bool, true, false, cond, not, ◌&&◌, ◌||◌, ◌⊎◌, ℕ, ◌≤◌, ◌<◌, eqb, leb, ltb}
use Rattle.std.proofs.Common.{sym, true≢false, inl, inr, eq-eqb, eqb-true, le-leb, leb-true, lt-ltb, ltb-true}
use Rattle.std.proofs.lemmas.Bool.{false≢true}
use Rattle.logic.specs.Search.{all_b}
use Rattle.logic.specs.Laws.Search.{all_at, all_from}

pub record Decides (b : Bool) (P : Type 0) : Type 0 where
  pub holds : b ≡ true → P
  pub passes : P → b ≡ true

-- two tests of one statement are the same
pub same_test : {P : Type 0} (a b : Bool) → Decides a P → Decides b P → a ≡ b
same_test true b p q = sym (q.passes (p.holds refl))
same_test false true p q = p.passes (q.holds refl)
same_test false false p q = refl

pub less : (x y : ℕ) → Decides (ltb x y) (x < y)
less x y = record { holds = ltb-true x y; passes = lt-ltb x y }

pub at_most : (x y : ℕ) → Decides (leb x y) (x ≤ y)
at_most x y = record { holds = leb-true x y; passes = le-leb x y }

pub equal : (x y : ℕ) → Decides (eqb x y) (x ≡ y)
equal x y = record { holds = eqb-true x y; passes = eq-eqb x y }

module _ {P Q : Type 0} where
  pub both : (a b : Bool) → Decides a P → Decides b Q → Decides (a && b) (P × Q)
  both true b p q = record { holds = λ h. (p.holds refl, q.holds h); passes = λ w. q.passes w.1 }
  both false b p q = record { holds = λ h. absurd (false≢true h); passes = λ w. absurd (false≢true (p.passes w.0)) }

  pub either : (a b : Bool) → Decides a P → Decides b Q → Decides (a || b) (P ⊎ Q)
  either true b p q = record { holds = λ h. inl (p.holds refl); passes = λ w. refl }
  either false b p q = record { holds = λ h. inr (q.holds h); passes = passed }
    where
      passed : P ⊎ Q → b ≡ true
      passed (inl w) = absurd (false≢true (p.passes w))
      passed (inr w) = q.passes w

  -- the same test, the statement put in another form
  pub restated : {b : Bool} → Decides b P → (P → Q) → (Q → P) → Decides b Q
  restated d there back = record { holds = λ h. there (d.holds h); passes = λ w. d.passes (back w) }

pub denied : {P : Type 0} (b : Bool) → Decides b P → Decides (not b) (P → ⊥)
denied true d = record { holds = λ h. absurd (false≢true h); passes = λ w. absurd (w (d.holds refl)) }
denied false d = record { holds = λ h w. false≢true (d.passes w); passes = λ w. refl }

pub every : (n : ℕ) (f : ℕ → Bool) (P : ℕ → Type 0) → ((i : ℕ) → Decides (f i) (P i)) → Decides (all_b n f) ((i : ℕ) → i < n → P i)
every n f P d = record { holds = λ h i l. (d i).holds (all_at n f h i l); passes = λ w. all_from n f (λ i l. (d i).passes (w i l)) }

pub itself : (b : Bool) → Decides b (b ≡ true)
itself b = record { holds = λ h. h; passes = λ h. h }

module _ {P Q : Type 0} where
  pub implied : (a b : Bool) → Decides a P → Decides b Q → Decides (not a || b) (P → Q)
  implied true b p q = record { holds = λ h w. q.holds h; passes = λ w. q.passes (w (p.holds refl)) }
  implied false b p q = record { holds = λ h w. absurd (false≢true (p.passes w)); passes = λ w. refl }

pub choice : {P Q : Type 0} (b x y : Bool) → Decides x P → Decides y Q → Decides (cond b x y) ((b ≡ true → P) × (b ≡ false → Q))
choice true x y p q = record { holds = λ h. ((λ e. p.holds h), (λ e. absurd (true≢false e))); passes = λ w. p.passes (w.0 refl) }
choice false x y p q = record { holds = λ h. ((λ e. absurd (false≢true e)), (λ e. q.holds h)); passes = λ w. q.passes (w.1 refl) }

pub whenever : {P : Type 0} (a b : Bool) → Decides b P → Decides (not a || b) (a ≡ true → P)
whenever true b p = record { holds = λ h e. p.holds h; passes = λ w. p.passes (w refl) }
whenever false b p = record { holds = λ h e. absurd (false≢true e); passes = λ w. refl }

pub unless : {P : Type 0} (a b : Bool) → Decides b P → Decides (a || b) (a ≡ false → P)
unless true b p = record { holds = λ h e. absurd (true≢false e); passes = λ w. refl }
unless false b p = record { holds = λ h e. p.holds h; passes = λ w. p.passes (w refl) }

pub not_both : (a b : Bool) → Decides (not (a && b)) (a ≡ true → b ≡ false)
not_both true true = record { holds = λ h e. sym h; passes = λ w. sym (w refl) }
not_both true false = record { holds = λ h e. refl; passes = λ w. refl }
not_both false b = record { holds = λ h e. absurd (false≢true e); passes = λ w. refl }
