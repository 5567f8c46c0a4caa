-- A sweep: instances go, and those that stay are rid of their references to them.
use Rattle.std.specs.Prelude.{◌≡◌, Bool, true, false, cond, ◌&&◌, ◌⊎◌, List, length}
use Rattle.std.proofs.Math.Path.{refl}
use Rattle.std.proofs.Common.{sym, subst, ◌∙◌, inl, inr, ⊎_elim, arith, eq-eqb, ne_eqb, lt-ltb}
use Prim.Native.Nat.{ℕ, zero, suc, ◌+◌, ◌≤◌, ◌<◌}
use Rattle.words.specs.declared.layout.Kind.{Kind}
use Rattle.words.specs.declared.layout.Kind.TheVariants.{Instance}
use Rattle.words.specs.Layout.{words, stride_of, count_of}
use Rattle.words.specs.Fields.{type_in, values, flagged, without_flag}
use Rattle.words.specs.Entries.{word_of, cursor_in, without_entry}
use Rattle.words.specs.Laws.Fields.{Alike, alike_without, flagged_without}
use Rattle.words.specs.Laws.Entries.{entry_zeros}
use Rattle.dictionary.specs.Dictionary.{is_reference, attribute_of}
use Rattle.tables.specs.View.{header_at, value_at}
use Rattle.tables.specs.Edits.{without_value}
use Rattle.tables.specs.Deletions.{refers, detached, swept}
use Rattle.logic.specs.Laws.Bools.{clash}
use Rattle.promises.specs.Keeps.Frame.{same_or_not, alike_same}
use Rattle.promises.specs.Keeps.Edited.{Rest, entry_rest, rest_then}
use Rattle.promises.specs.Keeps.Written.{written_header, written_value, written_others, written_rest}

-- an instance by its words: attribute k is set and refers to an instance that goes
abbrev pub refers_in : (ℕ → ℕ) → (ℕ → Bool) → ℕ → Bool
refers_in e goes k = is_reference (attribute_of (type_in (e 0)) k) && flagged (e 0) k && goes (e (1 + k))

-- attribute k is as it was
pub record Same (e e' : ℕ → ℕ) (k : ℕ) : Type 0 where
  pub flag : flagged (e' 0) k ≡ flagged (e 0) k
  pub value : e' (1 + k) ≡ e (1 + k)

-- attribute k is unset
pub record Unset (e' : ℕ → ℕ) (k : ℕ) : Type 0 where
  pub flag : flagged (e' 0) k ≡ false
  pub value : e' (1 + k) ≡ 0

-- the first n attributes are rid of their references to those that go
pub record Rid (goes : ℕ → Bool) (n : ℕ) (e e' : ℕ → ℕ) : Type 0 where
  pub alike : Alike (e 0) (e' 0)
  pub empty : e 0 ≡ 0 → e' 0 ≡ 0
  pub later : (k : ℕ) → n ≤ k → k < values → Same e e' k
  pub earlier : (k : ℕ) → k < n → k < values → ((refers_in e goes k ≡ false) × Same e e' k) ⊎ Unset e' k

alike_then : (a b c : ℕ) → Alike a b → Alike b c → Alike a c
alike_then a b c p q = record { types = q.types ∙ p.types; models = q.models ∙ p.models; header = λ w. q.header (p.header w) }

-- ---- one instance

module _ (goes : ℕ → Bool) (i : ℕ) (here : i < count_of Instance) where
  module _ (t before : List ℕ) (n : ℕ) (hn : n < values) (long : words ≤ length before)
      (r : Rid goes n (word_of t Instance i) (word_of before Instance i)) where
    same_refers : refers before goes i n ≡ refers t goes i n
    same_refers = rw (r.alike.types, (r.later n (omega arith) hn).flag, (r.later n (omega arith) hn).value)

    gone_header : header_at (without_value before i n) i ≡ without_flag (header_at before i) n
    gone_header = written_header before i n 0 (without_flag (header_at before i) n) here hn long

    unset_flag : flagged (header_at (without_value before i n) i) n ≡ false
    unset_flag = rw (gone_header, flagged_without (header_at before i) n n hn hn, eq-eqb n n refl)

    other_flag : (k : ℕ) → k < values → (k ≡ n → ⊥) → flagged (header_at (without_value before i n) i) k ≡ flagged (header_at before i) k
    other_flag k l apart = rw (gone_header, flagged_without (header_at before i) n k hn l, ne_eqb k n apart)

    other_value : (k : ℕ) → (k ≡ n → ⊥) → value_at (without_value before i n) i k ≡ value_at before i k
    other_value k apart = written_others before i n 0 (without_flag (header_at before i) n) here hn long k apart

    unset_more : Rid goes (suc n) (word_of t Instance i) (word_of (without_value before i n) Instance i)
    unset_more = record {
      alike = alike_then (header_at t i) (header_at before i) _ r.alike (rw gone_header (alike_without (header_at before i) n hn));
      empty = λ e. gone_header ∙ nothing (header_at before i) (r.empty e);
      later = λ k m l. moved k l (λ p. omega arith) (r.later k (omega arith) l);
      earlier = λ k m l. by_cases k m l (same_or_not k n);
    }
      where
        nothing : (x : ℕ) → x ≡ 0 → without_flag x n ≡ 0
        nothing x e = rw (lt-ltb n values hn) (omega arith)

        moved : (k : ℕ) → k < values → (k ≡ n → ⊥) → Same (word_of t Instance i) (word_of before Instance i) k
            → Same (word_of t Instance i) (word_of (without_value before i n) Instance i) k
        moved k l apart s = record { flag = other_flag k l apart ∙ s.flag; value = other_value k apart ∙ s.value }

        by_cases : (k : ℕ) → k < suc n → k < values → (k ≡ n) ⊎ (k ≡ n → ⊥)
            → ((refers t goes i k ≡ false) × Same (word_of t Instance i) (word_of (without_value before i n) Instance i) k) ⊎ Unset (word_of (without_value before i n) Instance i) k
        by_cases k m l (inl e) = inr (rw e (record { flag = unset_flag; value = written_value before i n 0 (without_flag (header_at before i) n) here hn long }))
        by_cases k m l (inr e) =
            ⊎_elim (λ q. inl (q.0, moved k l e q.1))
            (λ u. inr (record { flag = other_flag k l e ∙ u.flag; value = other_value k e ∙ u.value }))
            (r.earlier k (omega arith) l)

    none_more : refers before goes i n ≡ false → Rid goes (suc n) (word_of t Instance i) (word_of before Instance i)
    none_more stop = record { alike = r.alike; empty = r.empty; later = λ k m l. r.later k (omega arith) l; earlier = λ k m l. by_cases k m l (same_or_not k n) }
      where
        by_cases : (k : ℕ) → k < suc n → k < values → (k ≡ n) ⊎ (k ≡ n → ⊥)
            → ((refers t goes i k ≡ false) × Same (word_of t Instance i) (word_of before Instance i) k) ⊎ Unset (word_of before Instance i) k
        by_cases k m l (inl e) = inl (rw e (sym same_refers ∙ stop, r.later n (omega arith) hn))
        by_cases k m l (inr e) = r.earlier k (omega arith) l

  -- an instance that stays
  pub record Detached (t t' : List ℕ) (n : ℕ) : Type 0 where
    pub rest : Rest t t' Instance i
    pub rid : Rid goes n (word_of t Instance i) (word_of t' Instance i)

  detached_more : (t before : List ℕ) (n : ℕ) → n < values → words ≤ length t → Detached t before n → (b : Bool)
      → refers before goes i n ≡ b → Detached t (cond b (without_value before i n) before) (suc n)
  detached_more t before n hn long d true e = record {
    rest = rest_then t before _ Instance i d.rest (written_rest before i n 0 (without_flag (header_at before i) n) here hn (omega (arith, d.rest.long)));
    rid = unset_more t before n hn (omega (arith, d.rest.long)) d.rid;
  }
  detached_more t before n hn long d false e = record { rest = d.rest; rid = none_more t before n hn (omega (arith, d.rest.long)) d.rid e }

  pub detaches : (t : List ℕ) (n : ℕ) → n ≤ values → words ≤ length t → Detached t (detached t goes i n) n
  unfolding detached
  detaches t zero hn long = record {
    rest = record { long = refl; others = λ kind j k apart. refl; same_cursors = λ kind. refl };
    rid = record { alike = alike_same (header_at t i); empty = λ e. e; later = λ k m l. record { flag = refl; value = refl }; earlier = λ k m l. absurd (omega arith) };
  }
  detaches t (suc n) hn long = detached_more t (detached t goes i n) n hn long (detaches t n (omega arith) long) (refers (detached t goes i n) goes i n) refl

-- ---- all of them

pointwise : {f g : ℕ → ℕ} → ((k : ℕ) → f k ≡ g k) → f ≡ g
pointwise p = λ i k. p k i

pub record Sweep (goes : ℕ → Bool) (n : ℕ) (t t' : List ℕ) : Type 0 where
  pub long : length t' ≡ length t
  pub others : (kind : Kind) (i k : ℕ) → (Instance ≡ kind → i < n → ⊥) → word_of t' kind i k ≡ word_of t kind i k
  pub same_cursors : (kind : Kind) → cursor_in t' kind ≡ cursor_in t kind
  pub gone : (j : ℕ) → j < n → goes j ≡ true → (k : ℕ) → k < stride_of Instance → word_of t' Instance j k ≡ 0
  pub stays : (j : ℕ) → j < n → goes j ≡ false → Rid goes values (word_of t Instance j) (word_of t' Instance j)

module _ (goes : ℕ → Bool) (n : ℕ) (t t' t'' : List ℕ) (w : Sweep goes n t t') (r : Rest t' t'' Instance n)
    (gone : goes n ≡ true → (k : ℕ) → k < stride_of Instance → word_of t'' Instance n k ≡ 0)
    (stays : goes n ≡ false → Rid goes values (word_of t' Instance n) (word_of t'' Instance n)) where
  earlier_same : (j : ℕ) → j < n → (k : ℕ) → word_of t'' Instance j k ≡ word_of t' Instance j k
  earlier_same j l k = r.others Instance j k (λ e same. omega arith)

  later_same : (k : ℕ) → word_of t' Instance n k ≡ word_of t Instance n k
  later_same k = w.others Instance n k (λ e l. omega arith)

  sweep_more : Sweep goes (suc n) t t''
  sweep_more = record {
    long = r.long ∙ w.long;
    others = λ kind i k apart. r.others kind i k (λ e same. apart e (omega arith)) ∙ w.others kind i k (λ e l. apart e (omega arith));
    same_cursors = λ kind. r.same_cursors kind ∙ w.same_cursors kind;
    gone = λ j l g. told_gone j l g (same_or_not j n);
    stays = λ j l g. told_stays j l g (same_or_not j n);
  }
    where
      told_gone : (j : ℕ) → j < suc n → goes j ≡ true → (j ≡ n) ⊎ (j ≡ n → ⊥) → (k : ℕ) → k < stride_of Instance → word_of t'' Instance j k ≡ 0
      told_gone j l g (inl e) k m = rw e (gone (rw e at g) k m)
      told_gone j l g (inr e) k m = earlier_same j (omega arith) k ∙ w.gone j (omega arith) g k m

      told_stays : (j : ℕ) → j < suc n → goes j ≡ false → (j ≡ n) ⊎ (j ≡ n → ⊥) → Rid goes values (word_of t Instance j) (word_of t'' Instance j)
      told_stays j l g (inl e) = rw e (subst (λ (f : ℕ → ℕ). Rid goes values f (word_of t'' Instance n)) (pointwise later_same) (stays (rw e at g)))
      told_stays j l g (inr e) =
          subst (λ (f : ℕ → ℕ). Rid goes values (word_of t Instance j) f)
          (sym (pointwise (earlier_same j (omega arith)))) (w.stays j (omega arith) g)

one_swept : (goes : ℕ → Bool) (n : ℕ) (t t' : List ℕ) → n < count_of Instance → words ≤ length t → Sweep goes n t t' → (b : Bool)
    → goes n ≡ b → Sweep goes (suc n) t (cond b (without_entry t' Instance n) (detached t' goes n values))
one_swept goes n t t' here long w true e =
    sweep_more goes n t t' _ w (entry_rest t' Instance n _)
    (λ g k l. entry_zeros t' Instance n 0 k l here (omega (arith, w.long)) (λ z. refl))
    (λ g. clash (goes n) e g)
one_swept goes n t t' here long w false e =
    let d : Detached goes n here t' (detached t' goes n values) values = detaches goes n here t' values (omega arith) (omega (arith, w.long)) in
    sweep_more goes n t t' _ w d.rest (λ g. clash (goes n) g e) (λ g. d.rid)

pub sweeps : (goes : ℕ → Bool) (t : List ℕ) (n : ℕ) → n ≤ count_of Instance → words ≤ length t → Sweep goes n t (swept t goes n)
unfolding swept
sweeps goes t zero hn long = record {
  long = refl;
  others = λ kind i k apart. refl;
  same_cursors = λ kind. refl;
  gone = λ j l. absurd (omega arith);
  stays = λ j l. absurd (omega arith);
}
sweeps goes t (suc n) hn long = one_swept goes n t (swept t goes n) hn long (sweeps goes t n (omega arith) long) (goes n) refl
