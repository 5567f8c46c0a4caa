-- What every change leaves alone.
use Rattle.std.specs.Prelude.{◌≡◌, refl, Bool, true, false, cond, List, ℕ, zero, suc, ◌+◌, length, drop}
use Rattle.std.proofs.Common.{◌∙◌, true≢false}
use Rattle.words.specs.declared.layout.Kind.{Kind}
use Rattle.words.specs.declared.layout.Kind.TheVariants.{Model, SchemaInstance, Instance}
use Rattle.words.specs.Layout.{words, count_of}
use Rattle.words.specs.Sets.{insert, remove}
use Rattle.words.specs.Fields.{values, with_flag, without_flag}
use Rattle.words.specs.Entries.{cursor_in, with_word, with_words}
use Rattle.words.specs.Laws.Entries.{length_word, word_beyond, word_cursor, length_entry, entry_beyond, entry_cursor, length_made, made_beyond}
use Rattle.tables.specs.declared.changes.Change.{Change}
use Rattle.tables.specs.declared.changes.Change.TheVariants.{Made, Gone, Joined, Left, Put, Unset}
use Rattle.tables.specs.View.{set_at, header_at}
use Rattle.tables.specs.Deletions.{goes_with, refers, detached, swept, ungrouped, without}
use Rattle.tables.specs.Changes.{apply}

-- words from 739 on are not written: the same length, and the same words beyond
pub record Kept (t u : List ℕ) : Type 0 where
  pub lengths : length u ≡ length t
  pub beyond : drop words u ≡ drop words t

-- .. nor is a cursor
record Still (t u : List ℕ) : Type 0 where
  kept : Kept t u
  cursors : (kind : Kind) → cursor_in u kind ≡ cursor_in t kind

as_it_was : (t : List ℕ) → Still t t
as_it_was t = record { kept = record { lengths = refl; beyond = refl }; cursors = λ kind. refl }

then : {t u : List ℕ} (v : List ℕ) → Still t u → Still u v → Still t v
then v p q = record {
  kept = record { lengths = q.kept.lengths ∙ p.kept.lengths; beyond = q.kept.beyond ∙ p.kept.beyond };
  cursors = λ kind. q.cursors kind ∙ p.cursors kind;
}

either : {t u v : List ℕ} (b : Bool) → Still t u → Still t v → Still t (cond b u v)
either true p q = p
either false p q = q

word_still : (t : List ℕ) (kind : Kind) (i k w : ℕ) → Still t (with_word t kind i k w)
word_still t kind i k w = record { kept = record { lengths = length_word t kind i k w; beyond = word_beyond t kind i k w }; cursors = word_cursor t kind i k w }

entry_still : (t : List ℕ) (kind : Kind) (i first : ℕ) → Still t (with_words t kind i first)
entry_still t kind i first = record { kept = record { lengths = length_entry t kind i first; beyond = entry_beyond t kind i first }; cursors = entry_cursor t kind i first }

two_still : (t : List ℕ) (i k v h : ℕ) → Still t (with_word (with_word t Instance i (1 + k) v) Instance i 0 h)
two_still t i k v h = then (with_word (with_word t Instance i (1 + k) v) Instance i 0 h) (word_still t Instance i (1 + k) v) (word_still (with_word t Instance i (1 + k) v) Instance i 0 h)

detached_still : (t : List ℕ) (gone : ℕ → Bool) (i n : ℕ) → Still t (detached t gone i n)
unfolding detached
detached_still t gone i zero = as_it_was t
detached_still t gone i (suc n) =
    let before = detached t gone i n in
    then _ (detached_still t gone i n) (either (refers before gone i n) (two_still before i n 0 (without_flag (header_at before i) n)) (as_it_was before))

swept_still : (t : List ℕ) (gone : ℕ → Bool) (n : ℕ) → Still t (swept t gone n)
unfolding swept
swept_still t gone zero = as_it_was t
swept_still t gone (suc n) =
    let before = swept t gone n in
    then _ (swept_still t gone n) (either (gone n) (entry_still before Instance n 0) (detached_still before gone n values))

ungrouped_still : (t : List ℕ) (m n : ℕ) → Still t (ungrouped t m n)
unfolding ungrouped
ungrouped_still t m zero = as_it_was t
ungrouped_still t m (suc n) =
    let before = ungrouped t m n in
    then _ (ungrouped_still t m n) (word_still before SchemaInstance n 1 (remove (set_at before n) m))

without_still : (t : List ℕ) (kind : Kind) (n : ℕ) → Still t (without t kind n)
without_still t Model n =
    let emptied = swept t (goes_with t Model n) (count_of Instance) in
    let alone = ungrouped emptied n (count_of SchemaInstance) in
    then _ (then _ (swept_still t (goes_with t Model n) (count_of Instance)) (ungrouped_still emptied n (count_of SchemaInstance))) (entry_still alone Model n 0)
without_still t SchemaInstance n = entry_still t SchemaInstance n 0
without_still t Instance n = swept_still t (goes_with t Instance n) (count_of Instance)

-- a creation, told from the other changes
abbrev pub is_made : Change → Bool
is_made (Made kind n first) = true
is_made (Gone kind n) = false
is_made (Joined s m) = false
is_made (Left s m) = false
is_made (Put i k v) = false
is_made (Unset i k) = false

change_still : (change : Change) (t : List ℕ) → is_made change ≡ false → Still t (apply change t)
unfolding apply
change_still (Made kind n first) t e = absurd (true≢false e)
change_still (Gone kind n) t e = without_still t kind n
change_still (Joined s m) t e = word_still t SchemaInstance s 1 (insert (set_at t s) m)
change_still (Left s m) t e = word_still t SchemaInstance s 1 (remove (set_at t s) m)
change_still (Put i k v) t e = two_still t i k v (with_flag (header_at t i) k)
change_still (Unset i k) t e = two_still t i k 0 (without_flag (header_at t i) k)

pub change_keeps : (change : Change) (t : List ℕ) → Kept t (apply change t)
unfolding apply
change_keeps (Made kind n first) t = record { lengths = length_made t kind n first; beyond = made_beyond t kind n first }
change_keeps (Gone kind n) t = (change_still (Gone kind n) t refl).kept
change_keeps (Joined s m) t = (change_still (Joined s m) t refl).kept
change_keeps (Left s m) t = (change_still (Left s m) t refl).kept
change_keeps (Put i k v) t = (change_still (Put i k v) t refl).kept
change_keeps (Unset i k) t = (change_still (Unset i k) t refl).kept

-- **A creation alone moves a cursor**; a deletion does not.
pub cursors_stay : (change : Change) (t : List ℕ) → is_made change ≡ false → (kind : Kind) → cursor_in (apply change t) kind ≡ cursor_in t kind
cursors_stay change t e = (change_still change t e).cursors
