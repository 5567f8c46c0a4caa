-- What the calls that remain make live, a member and set (PROMISES, demand 3).
use Rattle.std.specs.Prelude.{ℕ, ◌≡◌, Bool, true, false, ◌||◌, ◌&&◌, List, ◌∷◌}
use Rattle.words.specs.declared.layout.Kind.{Kind}
use Rattle.words.specs.declared.layout.Kind.TheVariants.{Model, SchemaInstance, Instance}
use Rattle.dictionary.specs.Dictionary.{is_reference, attribute_of}
use Rattle.session.specs.Runs.{Call, Answered}
use Rattle.history.specs.Remains.{of, of_both, gave}

-- some call is as P says, given those before it, and no later one is as Q says
pub data Since (P : Answered → List Answered → Type 0) (Q : Answered → Bool) : List Answered → Type 0 where
  now : {x : Answered} {h : List Answered} → P x h → Since P Q (x ∷ h)
  still : {x : Answered} {h : List Answered} → Since P Q h → Q x ≡ false → Since P Q (x ∷ h)

-- ---- entries: n of its kind is live, and the call q made it

abbrev pub LiveModel : ℕ → Call → List Answered → Type 0
LiveModel n q h = Since (λ x earlier. (gave 20 n x ≡ true) × (x.call ≡ q)) (of 21 n) h

abbrev pub LiveSchemaInstance : ℕ → Call → List Answered → Type 0
LiveSchemaInstance n q h = Since (λ x earlier. (gave 30 n x ≡ true) × (x.call ≡ q)) (of 31 n) h

-- a deletion of instance n, or of its model: the one that the call q made it in
abbrev pub ends : ℕ → Call → Answered → Bool
ends n q x = of 41 n x || of 21 q.a x

abbrev pub LiveInstance : ℕ → Call → List Answered → Type 0
LiveInstance n q h = Since (λ x earlier. (gave 40 n x ≡ true) × (x.call ≡ q)) (ends n q) h

abbrev pub Live : Kind → ℕ → Call → List Answered → Type 0
Live Model n q h = LiveModel n q h
Live SchemaInstance n q h = LiveSchemaInstance n q h
Live Instance n q h = LiveInstance n q h

-- ---- sets: model m is in the set of schema instance s

-- s made or deleted; a 33 of m there; m deleted
abbrev pub parts : ℕ → ℕ → Answered → Bool
parts s m x = gave 30 s x || of 31 s x || of_both 33 s m x || of 21 m x

unfoldable pub Member : ℕ → ℕ → List Answered → Type 0
Member s m h = Since (λ x earlier. of_both 32 s m x ≡ true) (parts s m) h

-- ---- attributes: k of instance i is set, and holds v

-- k is a reference of the instance that this call made
abbrev pub is_r : Call → ℕ → Bool
is_r made k = is_reference (attribute_of made.b k)

-- a put, by which time `made` had made instance i, and for R `target` the instance v
pub record Puts (i k v : ℕ) (made target : Call) (x : Answered) (earlier : List Answered) : Type 0 where
  pub put : of_both 44 i k x ≡ true
  pub value : x.call.c ≡ v
  pub instance : LiveInstance i made earlier
  pub named : is_r made k ≡ true → LiveInstance v target earlier

-- a later put or an unset; i made or gone; for R, v gone, or its model at that put
abbrev pub undoes : ℕ → ℕ → ℕ → Call → Call → Answered → Bool
undoes i k v made target x = of_both 44 i k x || of_both 45 i k x || gave 40 i x || ends i made x || (is_r made k && ends v target x)

unfoldable pub SetTo : ℕ → ℕ → ℕ → List Answered → Type 0
SetTo i k v h = (made : Call) × (target : Call) × Since (Puts i k v made target) (undoes i k v made target) h
