-- Tables that agree in the words in use: what a call reads of them is the same, and what it writes leaves them so.
use Rattle.std.specs.Prelude.{◌≡◌, refl, Bool, true, false, cond, ◌⊎◌, List, get_or, set, Option, None, Some}
use Rattle.std.proofs.Common.{sym, ◌∙◌, inl, inr, arith, length-set, get_or-set_same, get_or-set_other}
use Rattle.std.proofs.Math.Path.{ap, fun_ext}
use Prim.Native.Nat.{ℕ, zero, suc, ◌+◌, ◌-◌, ◌<◌}
use Rattle.words.specs.declared.layout.Kind.{Kind}
use Rattle.words.specs.declared.layout.Kind.TheVariants.{Model, SchemaInstance, Instance}
use Rattle.words.specs.Layout.{words, stride_of, count_of, place_of, cursor_of}
use Rattle.logic.specs.Search.{all_b, any_b, first_from}
use Rattle.words.specs.Fields.{values, is_free, without_flag, with_flag}
use Rattle.words.specs.Sets.{bits, insert, remove}
use Rattle.words.specs.Entries.{in_entry, word_of, with_word, cursor_in, one_past, first_then_zeros, filled, first_free, next_free}
use Rattle.words.specs.Laws.Layout.{cursor_in_use}
use Rattle.words.specs.Laws.Entries.{entry_in_use}
use Rattle.words.specs.Laws.Copies.{Agreeing, agree_entries}
use Rattle.dictionary.specs.declared.answers.Attribute.{Attribute}
use Rattle.dictionary.specs.declared.answers.Attribute.TheVariants.{Whole, Reference}
use Rattle.tables.specs.View.{set_at, header_at, share_set}
use Rattle.tables.specs.Deletions.{goes_with, refers, holds_back, held_back, detached, swept, ungrouped, without}
use Rattle.tables.specs.declared.changes.Change.{Change}
use Rattle.tables.specs.declared.changes.Change.TheVariants.{Made, Gone, Joined, Left, Put, Unset}
use Rattle.tables.specs.Changes.{apply}
use Rattle.checks.specs.declared.operations.Operation.{Operation}
use Rattle.checks.specs.declared.operations.Operation.TheVariants as operation
use Rattle.checks.specs.declared.operations.Reader.{Reader}
use Rattle.checks.specs.declared.operations.Reader.TheVariants as reader
use Rattle.checks.specs.declared.operations.Writer.{Writer}
use Rattle.checks.specs.declared.operations.Writer.TheVariants as writer
use Rattle.state.specs.declared.state.State.{State}
use Rattle.session.specs.Sound.{sound_access}
use Rattle.session.specs.Rows.{referring, reader_row, writer_row, row_of}
use Rattle.promises.specs.Keeps.Frame.{same_or_not}

-- ---- what is read

module _ (t u : List ℕ) (same : (kind : Kind) (i k : ℕ) → word_of t kind i k ≡ word_of u kind i k) where
  share_alike : (m n : ℕ) → share_set t m n ≡ share_set u m n
  unfolding share_set
  share_alike m n = simp same

  pub refers_alike : (goes : ℕ → Bool) (i k : ℕ) → refers t goes i k ≡ refers u goes i k
  refers_alike goes i k = simp same

  pub goes_alike : (kind : Kind) (n : ℕ) → goes_with t kind n ≡ goes_with u kind n
  goes_alike Model n = fun_ext (λ j. simp same)
  goes_alike SchemaInstance n = refl
  goes_alike Instance n = refl

  holds_alike : (goes : ℕ → Bool) (r i : ℕ) → holds_back t goes r i ≡ holds_back u goes r i
  holds_alike goes r i = rw (fun_ext {f = refers t goes i} {g = refers u goes i} (refers_alike goes i)) (simp same)

  held_alike : (kind : Kind) (n r : ℕ) → held_back t kind n r ≡ held_back u kind n r
  unfolding held_back
  held_alike kind n r =
      ap (λ (goes : ℕ → Bool). any_b (count_of Instance) (holds_back t goes r)) (goes_alike kind n)
      ∙ ap (any_b (count_of Instance)) (fun_ext (holds_alike (goes_with u kind n) r))

  referring_alike : (x : Option Attribute) (m v : ℕ) → referring x m v t ≡ referring x m v u
  referring_alike None m v = refl
  referring_alike (Some Whole) m v = refl
  referring_alike (Some (Reference target)) m v = simp (same, share_alike)

  reader_alike : (o : Reader) (a b : ℕ) (s : State) → reader_row o a b s t ≡ reader_row o a b s u
  reader_alike reader.ReadOnlyAccess a b s = simp same
  reader_alike reader.EndAccess a b s = simp same
  reader_alike reader.Get a b s = simp same
  reader_alike reader.Test a b s = simp same

  pub access_alike : (s : State) → sound_access t s ≡ sound_access u s
  unfolding sound_access
  access_alike s = ap (all_b bits) (fun_ext (λ m. simp same))

  -- and the same cursors
  module _ (cursors : (kind : Kind) → cursor_in t kind ≡ cursor_in u kind) where
    first_alike : (kind : Kind) (from : ℕ) → first_free t kind from ≡ first_free u kind from
    first_alike kind from = ap (λ (f : ℕ → Bool). first_from f (count_of kind - from) from) (fun_ext (λ i. ap is_free (same kind i 0)))

    next_alike : (kind : Kind) → next_free t kind ≡ next_free u kind
    unfolding next_free
    next_alike kind = rw (cursors kind, first_alike kind (cursor_in u kind), first_alike kind 0)

    writer_alike : (o : Writer) (a b c : ℕ) (s : State) → writer_row o a b c s t ≡ writer_row o a b c s u
    writer_alike writer.CreateModel a b c s = simp (same, next_alike)
    writer_alike writer.DeleteModel a b c s = simp (same, held_alike)
    writer_alike writer.ReadWriteAccess a b c s = simp same
    writer_alike writer.PromoteModel a b c s = simp same
    writer_alike writer.CreateSchemaInstance a b c s = simp (same, next_alike)
    writer_alike writer.DeleteSchemaInstance a b c s = simp same
    writer_alike writer.AddModel a b c s = simp same
    writer_alike writer.RemoveModel a b c s = simp same
    writer_alike writer.CreateInstance a b c s = simp (same, next_alike)
    writer_alike writer.DeleteInstance a b c s = simp (same, held_alike)
    writer_alike writer.Put a b c s = simp (same, referring_alike)
    writer_alike writer.Unset a b c s = simp same

    pub row_alike : (o : Operation) (a b c : ℕ) (s : State) → row_of o a b c s t ≡ row_of o a b c s u
    row_alike operation.Unlisted a b c s = refl
    row_alike operation.Opening a b c s = refl
    row_alike (operation.InSession o) a b c s = refl
    row_alike (operation.Reader o) a b c s = reader_alike o a b s
    row_alike (operation.Writer o) a b c s = writer_alike o a b c s

-- ---- what is written

either_alike : {t u t' u' : List ℕ} (b : Bool) → Agreeing t u → Agreeing t' u' → Agreeing (cond b t t') (cond b u u')
either_alike true h h' = h
either_alike false h h' = h'

set_alike : (t u : List ℕ) (p w : ℕ) → p < words → Agreeing t u → Agreeing (set t p w) (set u p w)
set_alike t u p w l h = record {
  left = omega (arith, length-set t p w, h.left);
  right = omega (arith, length-set u p w, h.right);
  alike = λ i m. by_cases i m (same_or_not i p);
}
  where
    by_cases : (i : ℕ) → i < words → (i ≡ p) ⊎ (i ≡ p → ⊥) → get_or (set t p w) i 0 ≡ get_or (set u p w) i 0
    by_cases i m (inl e) = rw e (get_or-set_same t p w 0 (omega (arith, h.left)) ∙ sym (get_or-set_same u p w 0 (omega (arith, h.right))))
    by_cases i m (inr n) = get_or-set_other t p i w 0 n ∙ h.alike i m ∙ sym (get_or-set_other u p i w 0 n)

module _ (t u : List ℕ) (h : Agreeing t u) where
  word_alike : (kind : Kind) (i k w : ℕ) → Agreeing (with_word t kind i k w) (with_word u kind i k w)
  word_alike kind i k w = by_cases (in_entry kind i k) refl
    where
      by_cases : (b : Bool) → in_entry kind i k ≡ b → Agreeing (cond b (set t (place_of kind i + k) w) t) (cond b (set u (place_of kind i + k) w) u)
      by_cases true e = set_alike t u (place_of kind i + k) w (entry_in_use kind i k e) h
      by_cases false e = h

filled_alike : (t u : List ℕ) (h : Agreeing t u) (kind : Kind) (i first n : ℕ) → Agreeing (filled t kind i first n) (filled u kind i first n)
unfolding filled
filled_alike t u h kind i first zero = h
filled_alike t u h kind i first (suc n) = word_alike _ _ (filled_alike t u h kind i first n) kind i n (first_then_zeros first n)

member_alike : (t u : List ℕ) (h : Agreeing t u) (s : ℕ) (become : ℕ → ℕ)
    → Agreeing (with_word t SchemaInstance s 1 (become (set_at t s))) (with_word u SchemaInstance s 1 (become (set_at u s)))
member_alike t u h s become = rw (agree_entries t u h SchemaInstance s 1) (word_alike t u h SchemaInstance s 1 (become (set_at u s)))

value_alike : (t u : List ℕ) (h : Agreeing t u) (i k v : ℕ) (become : ℕ → ℕ)
    → Agreeing
    (with_word (with_word t Instance i (1 + k) v) Instance i 0 (become (header_at t i)))
    (with_word (with_word u Instance i (1 + k) v) Instance i 0 (become (header_at u i)))
value_alike t u h i k v become =
    rw (agree_entries t u h Instance i 0) (word_alike _ _ (word_alike t u h Instance i (1 + k) v) Instance i 0 (become (header_at u i)))

detached_alike : (t u : List ℕ) (h : Agreeing t u) (goes : ℕ → Bool) (i n : ℕ) → Agreeing (detached t goes i n) (detached u goes i n)
unfolding detached
detached_alike t u h goes i zero = h
detached_alike t u h goes i (suc n) =
    let before = detached_alike t u h goes i n in
    rw (refers_alike (detached t goes i n) (detached u goes i n) (agree_entries _ _ before) goes i n)
    (either_alike (refers (detached u goes i n) goes i n) (value_alike _ _ before i n 0 (λ x. without_flag x n)) before)

swept_alike : (t u : List ℕ) (h : Agreeing t u) (goes : ℕ → Bool) (n : ℕ) → Agreeing (swept t goes n) (swept u goes n)
unfolding swept
swept_alike t u h goes zero = h
swept_alike t u h goes (suc n) =
    let before = swept_alike t u h goes n in
    either_alike (goes n) (filled_alike _ _ before Instance n 0 (stride_of Instance)) (detached_alike _ _ before goes n values)

ungrouped_alike : (t u : List ℕ) (h : Agreeing t u) (m n : ℕ) → Agreeing (ungrouped t m n) (ungrouped u m n)
unfolding ungrouped
ungrouped_alike t u h m zero = h
ungrouped_alike t u h m (suc n) = member_alike _ _ (ungrouped_alike t u h m n) n (λ x. remove x m)

module _ (t u : List ℕ) (h : Agreeing t u) where
  going_alike : (kind : Kind) (n : ℕ) → Agreeing (swept t (goes_with t kind n) (count_of Instance)) (swept u (goes_with u kind n) (count_of Instance))
  going_alike kind n = rw (goes_alike t u (agree_entries t u h) kind n) (swept_alike t u h (goes_with u kind n) (count_of Instance))

  without_alike : (kind : Kind) (n : ℕ) → Agreeing (without t kind n) (without u kind n)
  without_alike Model n = filled_alike _ _ (ungrouped_alike _ _ (going_alike Model n) n (count_of SchemaInstance)) Model n 0 (stride_of Model)
  without_alike SchemaInstance n = filled_alike t u h SchemaInstance n 0 (stride_of SchemaInstance)
  without_alike Instance n = going_alike Instance n

  pub apply_alike : (change : Change) → Agreeing (apply change t) (apply change u)
  unfolding apply
  apply_alike (Made kind n first) = set_alike _ _ (cursor_of kind) (one_past kind n) (cursor_in_use kind) (filled_alike t u h kind n first (stride_of kind))
  apply_alike (Gone kind n) = without_alike kind n
  apply_alike (Joined s m) = member_alike t u h s (λ x. insert x m)
  apply_alike (Left s m) = member_alike t u h s (λ x. remove x m)
  apply_alike (Put i k v) = value_alike t u h i k v (λ x. with_flag x k)
  apply_alike (Unset i k) = value_alike t u h i k 0 (λ x. without_flag x k)
