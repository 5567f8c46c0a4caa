-- A sound table is known by what it tells: two that tell the same agree in all words in use.
use Rattle.std.specs.Prelude.{ℕ, zero, suc, ◌+◌, ◌-◌, ◌/◌, ◌%◌, ◌^◌, ◌<◌, ◌≤◌, ◌≡◌, refl, Bool, true, false, not, List, eqb, ltb, get_or, Option, None, Some}
use Rattle.std.proofs.Common.{ap, sym, ◌∙◌, lt_of_lt_of_le, pow_mono, arith, eqb-true}
use Rattle.std.proofs.Math.Decide.{dec_lt}
use Rattle.std.proofs.Math.Nat.{div-eq_of_lt}
use Rattle.std.proofs.lemmas.Bool.{eqb-false, not-false}
use Rattle.logic.specs.Laws.Bools.{and_right}
use Rattle.logic.specs.Laws.Decides.{same_test, itself}
use Rattle.words.specs.declared.layout.Kind.{Kind}
use Rattle.words.specs.declared.layout.Kind.TheVariants.{Model, SchemaInstance, Instance}
use Rattle.words.specs.Layout.{words, stride_of, count_of, place_of, cursor_of}
use Rattle.words.specs.Sets.{bit_of, has}
use Rattle.words.specs.Fields.{type_in, model_in, flags_in, values, flagged}
use Rattle.words.specs.Entries.{word_of, free_at}
use Rattle.words.specs.Copies.{agree}
use Rattle.words.specs.Laws.Sets.{bit_step}
use Rattle.words.specs.Laws.Fields.{Label, label_test, label_of_fields, Header, header_of_fields, flag_of_flags}
use Rattle.words.specs.Laws.Entries.{entry_test}
use Rattle.words.specs.Laws.Copies.{agree_test}
use Rattle.dictionary.specs.declared.answers.Attribute.{Attribute}
use Rattle.dictionary.specs.declared.answers.Attribute.TheVariants.{Whole, Reference}
use Rattle.dictionary.specs.Dictionary.{attribute_of}
use Rattle.tables.specs.View.{is_live, set_at, header_at, type_at, is_set, value_at}
use Rattle.tables.specs.Sound.{sound_value}
use Rattle.session.specs.Runs.{Call, Answered}
use Rattle.promises.specs.Keeps.Facts.{SoundTable}
use Rattle.promises.specs.Keeps.Frame.{live_not_free, not_free_live}
use Rattle.history.specs.Live.{Live, Member}
use Rattle.history.specs.Demand3.{Asked, Tells}

-- ---- a number is known by its bits

same_bit : (s t m : ℕ) → has s m ≡ has t m → bit_of s m ≡ bit_of t m
same_bit s t m e = by_cases (has t m) refl e
  where
    by_cases : (b : Bool) → has t m ≡ b → has s m ≡ b → bit_of s m ≡ bit_of t m
    by_cases true p q = eqb-true (bit_of s m) 1 q ∙ sym (eqb-true (bit_of t m) 1 p)
    by_cases false p q =
        let x : bit_of s m ≡ 1 → ⊥ = eqb-false (bit_of s m) 1 q in
        let y : bit_of t m ≡ 1 → ⊥ = eqb-false (bit_of t m) 1 p in
        omega arith

below_known : (n s t : ℕ) → s < n → t < n → ((m : ℕ) → bit_of s m ≡ bit_of t m) → s ≡ t
below_known zero s t hs ht e = absurd (omega arith)
below_known (suc zero) s t hs ht e = omega arith
below_known (suc (suc n)) s t hs ht e =
    let lowest : bit_of s 0 ≡ bit_of t 0 = e 0 in
    let rest : s / 2 ≡ t / 2 = below_known (suc n) (s / 2) (t / 2) (omega arith) (omega arith) (λ m. sym (bit_step s m) ∙ e (suc m) ∙ bit_step t m) in
    omega arith

known : (s t : ℕ) → ((m : ℕ) → has s m ≡ has t m) → s ≡ t
known s t e = below_known (suc (s + t)) s t (omega arith) (omega arith) (λ m. same_bit s t m (e m))

-- a header is known by its fields
no_more_flags : (h m : ℕ) → Header h → values ≤ m → has (flags_in h) m ≡ false
no_more_flags h m p l =
    let small : flags_in h < 2 ^ values = omega (arith, p.small) in
    ap (λ (x : ℕ). eqb (x % 2) 1) (div-eq_of_lt (lt_of_lt_of_le small (pow_mono l)))

header_known : (h g : ℕ) → Header h → Header g → type_in h ≡ type_in g → model_in h ≡ model_in g → ((k : ℕ) → flagged h k ≡ flagged g k) → h ≡ g
header_known h g p q types models flags = sym (header_of_fields h p) ∙ rw (types, models, known (flags_in h) (flags_in g) same) (header_of_fields g q)
  where
    same : (m : ℕ) → has (flags_in h) m ≡ has (flags_in g) m
    same m = by_cases (dec_lt m values)
      where
        by_cases : Dec (m < values) → has (flags_in h) m ≡ has (flags_in g) m
        by_cases (yes l) = sym (flag_of_flags h m l) ∙ flags m ∙ flag_of_flags g m l
        by_cases (no l) = no_more_flags h m p (omega arith) ∙ sym (no_more_flags g m q (omega arith))

-- the word of an attribute that is not set
unset_zero : (t : List ℕ) (x : Option Attribute) (v : ℕ) → sound_value t x false v ≡ true → v ≡ 0
unset_zero t None v h = eqb-true v 0 h
unset_zero t (Some Whole) v h = eqb-true v 0 (and_right (ltb v 0x1_0000_0000) (eqb v 0) h)
unset_zero t (Some (Reference u)) v h = eqb-true v 0 h

-- ---- word by word

labels_known : (v w : ℕ) (q : Call) → Label v → Label w → Asked Model v q → Asked Model w q → v ≡ w
labels_known v w q hv hw a b = sym (label_of_fields v hv) ∙ rw (a.0, a.1, a.2, ← b.0, ← b.1, ← b.2) (label_of_fields w hw)

at_place : (t : List ℕ) (kind : Kind) (n k i : ℕ) → n < count_of kind → k < stride_of kind → place_of kind n + k ≡ i → word_of t kind n k ≡ get_or t i 0
at_place t kind n k i hn hk e = rw ((entry_test kind n k).passes (hn, hk), e)

module _ (t u : List ℕ) (ht : SoundTable t) (hu : SoundTable u) (h : List Answered) (a : Tells t h) (b : Tells u h) where
  same_live : (kind : Kind) (n : ℕ) → is_live t kind n ≡ is_live u kind n
  same_live kind n =
      same_test {P = (q : Call) × Live kind n q h} _ _ (record { holds = (a.live kind n).1; passes = (a.live kind n).0 }) (record { holds = (b.live kind n).1; passes = (b.live kind n).0 })

  same_set : (s : ℕ) → set_at t s ≡ set_at u s
  same_set s =
      known (set_at t s) (set_at u s)
      (λ m. same_test {P = Member s m h} _ _ (record { holds = (a.members s m).1; passes = (a.members s m).0 }) (record { holds = (b.members s m).1; passes = (b.members s m).0 }))

  -- an attribute that is set here is set there, to the same value
  set_there : (i k : ℕ) → is_set t i k ≡ true → (is_set u i k ≡ true) × (value_at u i k ≡ value_at t i k)
  set_there i k e = (b.attributes i k (value_at t i k)).0 ((a.attributes i k (value_at t i k)).1 (e, refl))

  same_flag : (i k : ℕ) → is_set t i k ≡ is_set u i k
  same_flag i k =
      same_test {P = is_set t i k ≡ true} _ _ (itself (is_set t i k))
      (record { holds = λ e. ((a.attributes i k (value_at u i k)).0 ((b.attributes i k (value_at u i k)).1 (e, refl))).0; passes = λ e. (set_there i k e).0 })

  same_free : (kind : Kind) (n : ℕ) → free_at t kind n ≡ true → free_at u kind n ≡ true
  same_free kind n f = not-false (free_at u kind n) (sym (same_live kind n) ∙ ap not f)

  -- ---- first words

  -- they are both 0, or one call made both entries
  same_first : (kind : Kind) (n : ℕ) → ((q : Call) → free_at t kind n ≡ false → free_at u kind n ≡ false → Live kind n q h → word_of t kind n 0 ≡ word_of u kind n 0)
      → word_of t kind n 0 ≡ word_of u kind n 0
  same_first kind n live = by_cases (free_at t kind n) refl
    where
      by_cases : (f : Bool) → free_at t kind n ≡ f → word_of t kind n 0 ≡ word_of u kind n 0
      by_cases true e = eqb-true _ 0 e ∙ sym (eqb-true _ 0 (same_free kind n e))
      by_cases false e =
          let x = (a.live kind n).1 (not_free_live t kind n e) in
          live x.0 e (live_not_free u kind n ((b.live kind n).0 x)) x.1

  model_word : (n : ℕ) → n < count_of Model → word_of t Model n 0 ≡ word_of u Model n 0
  model_word n l =
      same_first Model n
      (λ q f g x. labels_known _ _ q ((label_test _).holds (rw f at (ht.models n l))) ((label_test _).holds (rw g at (hu.models n l))) (a.asked Model n q x) (b.asked Model n q x))

  group_word : (n : ℕ) → n < count_of SchemaInstance → word_of t SchemaInstance n 0 ≡ word_of u SchemaInstance n 0
  group_word n l =
      same_first SchemaInstance n
      (λ q f g x. labels_known _ _ q ((ht.groups n l).label f) ((hu.groups n l).label g) (a.asked SchemaInstance n q x) (b.asked SchemaInstance n q x))

  header_word : (n : ℕ) → n < count_of Instance → header_at t n ≡ header_at u n
  header_word n l = same_first Instance n alike
    where
      alike : (q : Call) → free_at t Instance n ≡ false → free_at u Instance n ≡ false → Live Instance n q h → header_at t n ≡ header_at u n
      alike q f g x =
          let here : Asked Instance (header_at t n) q = a.asked Instance n q x in
          let there : Asked Instance (header_at u n) q = b.asked Instance n q x in
          header_known _ _ ((ht.instances n l).headed f).header ((hu.instances n l).headed g).header (here.1 ∙ sym there.1) (here.0 ∙ sym there.0) (same_flag n)

  -- ---- values

  value_word : (n k : ℕ) → n < count_of Instance → k < values → value_at t n k ≡ value_at u n k
  value_word n k l m = by_cases (free_at t Instance n) refl (is_set t n k) refl
    where
      by_cases : (f : Bool) → free_at t Instance n ≡ f → (set : Bool) → is_set t n k ≡ set → value_at t n k ≡ value_at u n k
      by_cases true e set s = (ht.instances n l).empty e k m ∙ sym ((hu.instances n l).empty (same_free Instance n e) k m)
      by_cases false e true s = sym (set_there n k s).1
      by_cases false e false s =
          let there = live_not_free u Instance n (sym (same_live Instance n) ∙ not_free_live t Instance n e) in
          unset_zero t (attribute_of (type_at t n) k) (value_at t n k) (rw s at ((ht.instances n l).valued e k m))
          ∙ sym (unset_zero u (attribute_of (type_at u n) k) (value_at u n k) (rw (sym (same_flag n k) ∙ s) at ((hu.instances n l).valued there k m)))

  -- ---- every word in use is one of an entry, or a cursor

  same_word : (i : ℕ) → i < words → get_or t i 0 ≡ get_or u i 0
  same_word i l = by_kind (dec_lt i 64) (dec_lt i 96) (dec_lt i 736)
    where
      moved : (kind : Kind) (n k : ℕ) → n < count_of kind → k < stride_of kind → place_of kind n + k ≡ i → word_of t kind n k ≡ word_of u kind n k → get_or t i 0 ≡ get_or u i 0
      moved kind n k hn hk e same = sym (at_place t kind n k i hn hk e) ∙ same ∙ at_place u kind n k i hn hk e

      in_group : (k : ℕ) → k < 2 → (i - 64) % 2 ≡ k → 64 ≤ i → i < 96 → get_or t i 0 ≡ get_or u i 0
      in_group zero hk e from to = moved SchemaInstance ((i - 64) / 2) 0 (omega arith) (omega arith) (omega arith) (group_word ((i - 64) / 2) (omega arith))
      in_group (suc zero) hk e from to = moved SchemaInstance ((i - 64) / 2) 1 (omega arith) (omega arith) (omega arith) (same_set ((i - 64) / 2))
      in_group (suc (suc k)) hk e from to = absurd (omega arith)

      in_instance : (k : ℕ) → k < 5 → (i - 96) % 5 ≡ k → 96 ≤ i → i < 736 → get_or t i 0 ≡ get_or u i 0
      in_instance zero hk e from to = moved Instance ((i - 96) / 5) 0 (omega arith) (omega arith) (omega arith) (header_word ((i - 96) / 5) (omega arith))
      in_instance (suc k) hk e from to =
          moved Instance ((i - 96) / 5) (1 + k) (omega arith) (omega arith) (omega arith) (value_word ((i - 96) / 5) k (omega arith) (omega arith))

      cursor : (kind : Kind) → cursor_of kind ≡ i → get_or t i 0 ≡ get_or u i 0
      cursor kind e = rw (← e) (a.cursors kind ∙ sym (b.cursors kind))

      in_cursors : (k : ℕ) → i - 736 ≡ k → 736 ≤ i → get_or t i 0 ≡ get_or u i 0
      in_cursors zero e from = cursor Model (omega arith)
      in_cursors (suc zero) e from = cursor SchemaInstance (omega arith)
      in_cursors (suc (suc k)) e from = cursor Instance (omega arith)

      by_kind : Dec (i < 64) → Dec (i < 96) → Dec (i < 736) → get_or t i 0 ≡ get_or u i 0
      by_kind (yes m) p q = moved Model i 0 m (omega arith) (omega arith) (model_word i m)
      by_kind (no m) (yes p) q = in_group ((i - 64) % 2) (omega arith) refl (omega arith) p
      by_kind (no m) (no p) (yes q) = in_instance ((i - 96) % 5) (omega arith) refl (omega arith) q
      by_kind (no m) (no p) (no q) = in_cursors (i - 736) refl (omega arith)

  pub told_alike : agree t u ≡ true
  told_alike = (agree_test t u).passes (record { left = ht.long; right = hu.long; alike = same_word })
