-- One more call at the end of a history: what it makes so, what stays so, and what was so.
use Rattle.std.specs.Prelude.{ℕ, ◌≡◌, refl, Bool, true, false, ◌||◌, ◌&&◌, ◌⊎◌, List, [], ◌∷◌}
use Rattle.std.proofs.Common.{inl, inr}
use Rattle.logic.specs.Laws.Bools.{clash}
use Rattle.words.specs.declared.layout.Kind.{Kind}
use Rattle.words.specs.declared.layout.Kind.TheVariants.{Model, SchemaInstance, Instance}
use Rattle.session.specs.Runs.{Call, Answered}
use Rattle.history.specs.Remains.{of_both, gave}
use Rattle.history.specs.Live.{Since, now, still, Live, LiveInstance, ends, is_r, Puts, undoes}
use Rattle.history.specs.Demand3.{creation_of}
use Rattle.history.proofs.Reading.{is_number, both_is, ended}

-- the two ways in which it can hold after one more call
pub since_cases : {P : Answered → List Answered → Type 0} {Q : Answered → Bool} {x : Answered} {h : List Answered}
    → Since P Q (x ∷ h) → P x h ⊎ (Since P Q h × (Q x ≡ false))
since_cases (now p) = inl p
since_cases (still s q) = inr (s, q)

-- of an empty history nothing holds
is_empty : List Answered → Bool
is_empty [] = true
is_empty (x ∷ h) = false

since_something : {P : Answered → List Answered → Type 0} {Q : Answered → Bool} {h : List Answered} → Since P Q h → is_empty h ≡ false
unfolding is_empty
since_something (now p) = refl
since_something (still s q) = refl

pub since_nothing : {P : Answered → List Answered → Type 0} {Q : Answered → Bool} → Since P Q [] → ⊥
unfolding is_empty
since_nothing s = clash true refl (since_something s)

-- ---- live entries of any kind

abbrev pub Lives : Kind → ℕ → Call → List Answered → Type 0
Lives kind n q h = Since (λ x earlier. (gave (creation_of kind) n x ≡ true) × (x.call ≡ q)) (ended kind n q) h

pub lives : (kind : Kind) (n : ℕ) (q : Call) (h : List Answered) → Live kind n q h → Lives kind n q h
lives Model n q h l = l
lives SchemaInstance n q h l = l
lives Instance n q h l = l

pub is_live_lem : (kind : Kind) (n : ℕ) (q : Call) (h : List Answered) → Lives kind n q h → Live kind n q h
is_live_lem Model n q h l = l
is_live_lem SchemaInstance n q h l = l
is_live_lem Instance n q h l = l

-- ---- set attributes

or_first : (a b : Bool) → (a || b) ≡ false → a ≡ false
or_first true b h = h
or_first false b h = refl

or_second : (a b : Bool) → (a || b) ≡ false → b ≡ false
or_second true b h = clash _ refl h
or_second false b h = h

and_second : (a b : Bool) → (a && b) ≡ false → a ≡ true → b ≡ false
and_second true b h e = h
and_second false b h e = clash _ e refl

module _ (i k v : ℕ) (made target : Call) where
  -- a put ends no instance
  put_keeps : (n : ℕ) (q : Call) (x : Answered) → of_both 44 i k x ≡ true → ends n q x ≡ false
  put_keeps n q x h = rw (is_number 44 x (both_is 44 i k x h))

  -- what does not undo a put ends neither its instance nor, for R, the one that it names
  own_stays : (x : Answered) → undoes i k v made target x ≡ false → ends i made x ≡ false
  own_stays x q = or_second (of_both 44 i k x || of_both 45 i k x || gave 40 i x) _ (or_first _ (is_r made k && ends v target x) q)

  named_stays : (x : Answered) → undoes i k v made target x ≡ false → is_r made k ≡ true → ends v target x ≡ false
  named_stays x q e = and_second (is_r made k) _ (or_second (of_both 44 i k x || of_both 45 i k x || gave 40 i x || ends i made x) _ q) e

  -- **While an attribute is set, its instance lives as it was at the put, and for R so does the one that it names.**
  pub own_lives : {h : List Answered} → Since (Puts i k v made target) (undoes i k v made target) h → LiveInstance i made h
  own_lives (now {x} p) = still p.instance (put_keeps i made x p.put)
  own_lives (still {x} s q) = still (own_lives s) (own_stays x q)

  pub named_lives : {h : List Answered} → Since (Puts i k v made target) (undoes i k v made target) h → is_r made k ≡ true → LiveInstance v target h
  named_lives (now {x} p) e = still (p.named e) (put_keeps v target x p.put)
  named_lives (still {x} s q) e = still (named_lives s e) (named_stays x q e)
