-- The cursors: each is one past the last number that a remaining creation of its kind gave.
use Rattle.std.specs.Prelude.{ℕ, ◌≤◌, ◌≡◌, Bool, false, ◌&&◌, ◌⊎◌, List, ◌∷◌, eqb, length}
use Rattle.std.proofs.Math.Path.{refl}
use Rattle.std.proofs.Common.{sym, ap, ◌∙◌, inl, inr}
use Rattle.std.proofs.Math.Bool.{true, and-true}
use borrow.Author.Tests.{eq-eqb, ne_eqb, eqb-true}
use Rattle.logic.specs.Laws.Bools.{and_right}
use Rattle.words.specs.declared.layout.Kind.{Kind}
use Rattle.words.specs.Layout.{words, index_of}
use Rattle.words.specs.Entries.{cursor_in}
use Rattle.words.specs.Laws.Layout.{same_kind, same_index}
use Rattle.words.specs.Laws.Entries.{made_cursor, made_cursor_other}
use Rattle.words.specs.Laws.Copies.{Agreeing, agree_cursors}
use Rattle.tables.specs.declared.changes.Change.{Change}
use Rattle.tables.specs.declared.changes.Change.TheVariants.{Made, Gone, Joined, Left, Put, Unset}
use Rattle.tables.specs.Changes.{apply}
use Rattle.tables.specs.Laws.Changes.{is_made, cursors_stay}
use Rattle.session.specs.Runs.{Answered}
use Rattle.history.specs.Remains.{is, gave}
use Rattle.history.specs.Demand3.{creation_of, tried_first}
use Rattle.history.proofs.Saying.{Said, changes, makes}
use Rattle.history.proofs.Reading.{asked, told, in_said, gave_said}

abbrev pub Points : List ℕ → List Answered → Type 0
Points t h = (kind : Kind) → cursor_in t kind ≡ tried_first kind h

pub agree_points : (a b : List ℕ) (h : List Answered) → Agreeing a b → Points a h → Points b h
agree_points a b h e p kind = sym (agree_cursors a b e kind) ∙ p kind

module _ (x : Answered) (s : Said) (r : asked x ≡ told s) where
  -- a creation gave the number that it gave
  creates_said : (kind : Kind) → is (creation_of kind) x ≡ in_said (makes kind x.value) s
  creates_said kind = sym (and-true (is (creation_of kind) x)) ∙ ap (λ (b : Bool). is (creation_of kind) x && b) (sym (eq-eqb x.value x.value refl)) ∙ gave_said x s r kind x.value

  -- where it made none, the last one is the one before
  not_tried : (kind : Kind) (h : List Answered) → in_said (makes kind x.value) s ≡ false → tried_first kind (x ∷ h) ≡ tried_first kind h
  unfolding tried_first
  not_tried kind h none = rw (creates_said kind ∙ none)

  -- one call more, which says no change
  pub points_past : ((f : Change → Bool) → in_said f s ≡ false) → (h : List Answered) (t : List ℕ) → Points t h → Points t (x ∷ h)
  points_past none h t p kind = p kind ∙ sym (not_tried kind h (none (makes kind x.value)))

-- one call more, which says a change
module _ (x : Answered) (h : List Answered) (t : List ℕ) (long : words ≤ length t) (p : Points t h) where
  others : (c : Change) → is_made c ≡ false → ((kind : Kind) (n : ℕ) → makes kind n c ≡ false) → asked x ≡ told (changes c) → Points (apply c t) (x ∷ h)
  others c e none r kind = cursors_stay c t e kind ∙ p kind ∙ sym (not_tried x (changes c) r kind h (none kind x.value))

  pub points_on : (c : Change) → asked x ≡ told (changes c) → Points (apply c t) (x ∷ h)
  unfolding apply tried_first
  points_on (Made kind n first) r other = by_cases (same_kind kind other)
    where
      given : gave (creation_of kind) n x ≡ true
      given = gave_said x (changes (Made kind n first)) r kind n ∙ rw (eq-eqb (index_of kind) (index_of kind) refl, eq-eqb n n refl)

      number : x.value ≡ n
      number = eqb-true x.value n (and_right (is (creation_of kind) x) (eqb x.value n) given)

      by_cases : (kind ≡ other) ⊎ (kind ≡ other → ⊥) → cursor_in (apply (Made kind n first) t) other ≡ tried_first other (x ∷ h)
      by_cases (inl e) =
          rw (← e, creates_said x (changes (Made kind n first)) r kind, eq-eqb (index_of kind) (index_of kind) refl, number, eq-eqb n n refl)
          (made_cursor t kind n first long)
      by_cases (inr apart) =
          made_cursor_other t kind n first other apart ∙ p other
          ∙ sym (not_tried x (changes (Made kind n first)) r other h (rw (ne_eqb (index_of kind) (index_of other) (λ same. apart (same_index kind other same)))))
  points_on (Gone kind n) r other = others (Gone kind n) refl (λ kind' m'. refl) r other
  points_on (Joined s m) r other = others (Joined s m) refl (λ kind' m'. refl) r other
  points_on (Left s m) r other = others (Left s m) refl (λ kind' m'. refl) r other
  points_on (Put i k v) r other = others (Put i k v) refl (λ kind' m'. refl) r other
  points_on (Unset i k) r other = others (Unset i k) refl (λ kind' m'. refl) r other
