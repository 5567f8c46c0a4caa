-- Names by chains: going from link to link, an entry meets all before it that can have its name.
use Rattle.std.specs.Prelude.{◌≡◌, refl, true, false, not, List, ℕ, ◌+◌, ◌-◌, ◌*◌, ◌/◌, ◌%◌, ◌≤◌, ◌<◌, length, get_or, set, replicate}
use Rattle.std.proofs.Common.{sym, ap, ◌∙◌, true≢false, arith, get_or-set_same, get_or-set_other}
use Rattle.std.proofs.Math.Decide.{dec_lt, ℕ_discrete}
use Rattle.std.proofs.lemmas.List.{get_or-replicate}
use Rattle.words.specs.declared.layout.Kind.{Kind}
use Rattle.words.specs.Entries.{free_at}
use Rattle.logic.specs.Laws.Bools.{fails}
use Rattle.logic.specs.Laws.Search.{all_from, all_stop}
use Rattle.tables.specs.View.{is_live, label_at}
use Rattle.tables.specs.Sound.{same_name}
use Rattle.tables.specs.Quick.Names.{is_new, chains, chain_of, Link, Links}
use Rattle.tables.specs.Laws.Sound.{SameName, same_name_test}

module _ (t : List ℕ) (kind : Kind) where
  one_chain : (i j : ℕ) → SameName t kind i j → chain_of (label_at t kind j) ≡ chain_of (label_at t kind i)
  one_chain i j same = ap (λ (x : ℕ). x * 0x85eb_ca6b / 0x200_0000 % chains) same.names

  pub free_is_new : (i : ℕ) → free_at t kind i ≡ true → is_new t kind i ≡ true
  free_is_new i h = all_from i _ (λ j l. rw h)

  -- ---- the way along a chain

  -- at a link, all entries from there to i have other names than i
  pub record Walked (i link : ℕ) : Type 0 where
    pub below : link ≤ i
    pub there : (k : ℕ) → link ≡ k + 1 → (is_live t kind k ≡ true) × (chain_of (label_at t kind k) ≡ chain_of (label_at t kind i))
    pub apart : (k : ℕ) → link ≤ k → k < i → same_name (label_at t kind i) (label_at t kind k) ≡ false

  other_chain : (i k : ℕ) → (is_live t kind k ≡ true → chain_of (label_at t kind k) ≡ chain_of (label_at t kind i) → ⊥) → same_name (label_at t kind i) (label_at t kind k) ≡ false
  other_chain i k none = fails _ (λ e. let same = (same_name_test t kind i k).holds e in none same.other (one_chain i k same))

  pub walk_start : (i link : ℕ) → Link t kind (chain_of (label_at t kind i)) i link → Walked i link
  walk_start i link l = record { below = l.below; there = l.there; apart = λ k p q. other_chain i k (l.between k p q) }

  module _ (i link : ℕ) (before : List ℕ) (links : Links t kind before i) (walked : Walked i link) (more : link ≡ 0 → ⊥) where
    here : Link t kind (chain_of (label_at t kind i)) (link - 1) (get_or before (link - 1) 0)
    here =
        let w = walked.there (link - 1) (omega arith) in
        rw w.1 at (links.at (link - 1) (omega (arith, walked.below)) w.0)

    pub walk_less : get_or before (link - 1) 0 < link
    walk_less = omega (arith, here.below)

    pub walk_next : same_name (label_at t kind i) (label_at t kind (link - 1)) ≡ false → Walked i (get_or before (link - 1) 0)
    walk_next e = record { below = omega (arith, here.below, walked.below); there = here.there; apart = λ k p q. by_cases k p q (dec_lt k link) (ℕ_discrete k (link - 1)) }
      where
        by_cases : (k : ℕ) → get_or before (link - 1) 0 ≤ k → k < i → Dec (k < link) → Dec (k ≡ link - 1) → same_name (label_at t kind i) (label_at t kind k) ≡ false
        by_cases k p q (no past) d = walked.apart k (omega arith) q
        by_cases k p q (yes l) (yes same) = rw same e
        by_cases k p q (yes l) (no other) = other_chain i k (here.between k p (omega arith))

    pub walk_found : same_name (label_at t kind i) (label_at t kind (link - 1)) ≡ true → is_new t kind i ≡ false
    walk_found e = all_stop i _ (link - 1) (omega (arith, walked.below)) (ap not e)

  pub walk_end : (i link : ℕ) → Walked i link → link ≡ 0 → is_new t kind i ≡ true
  walk_end i link walked e = all_from i _ (λ k l. ap not (walked.apart k (omega arith) l))

  -- ---- the chains after i entries

  pub record Chained (last before : List ℕ) (i : ℕ) : Type 0 where
    pub heads : (b : ℕ) → b < chains → Link t kind b i (get_or last b 0)
    pub links : Links t kind before i

  pub none_chained : (before : List ℕ) → Chained (replicate chains 0) before 0
  none_chained before = record {
    heads = λ b l. rw (get_or-replicate {A = ℕ} chains b 0 0 l) record { below = omega arith; there = λ k e. absurd (omega arith); between = λ k p q. absurd (omega arith) };
    links = record { at = λ k l. absurd (omega arith) };
  }

  -- an entry of another chain, or a free one, changes nothing
  link_later : (b i link : ℕ) → Link t kind b i link → (is_live t kind i ≡ true → chain_of (label_at t kind i) ≡ b → ⊥) → Link t kind b (i + 1) link
  link_later b i link l none = record { below = omega (arith, l.below); there = l.there; between = λ k p q. by_cases k p q (dec_lt k i) }
    where
      by_cases : (k : ℕ) → link ≤ k → k < i + 1 → Dec (k < i) → is_live t kind k ≡ true → chain_of (label_at t kind k) ≡ b → ⊥
      by_cases k p q (yes s) live e = l.between k p s live e
      by_cases k p q (no s) live e =
          let same : k ≡ i = omega arith in
          none (rw same at live) (rw same at e)

  pub chained_free : (last before : List ℕ) (i : ℕ) → free_at t kind i ≡ true → Chained last before i → Chained last before (i + 1)
  chained_free last before i free c = record {
    heads = λ b l. link_later b i (get_or last b 0) (c.heads b l) (λ live e. dead live);
    links = record { at = λ k l live. c.links.at k (earlier k l live (ℕ_discrete k i)) live };
  }
    where
      dead : is_live t kind i ≡ true → ⊥
      dead live = true≢false (sym live ∙ ap not free)

      earlier : (k : ℕ) → k < i + 1 → is_live t kind k ≡ true → Dec (k ≡ i) → k < i
      earlier k l live (yes e) = absurd (dead (rw e at live))
      earlier k l live (no e) = omega arith

  pub chained_more : (last before : List ℕ) (i : ℕ) → length last ≡ chains → i < length before → is_live t kind i ≡ true → Chained last before i
      → Chained (set last (chain_of (label_at t kind i)) (i + 1)) (set before i (get_or last (chain_of (label_at t kind i)) 0)) (i + 1)
  chained_more last before i n m live c = record {
    heads = λ b l. head b l (ℕ_discrete b own);
    links = record { at = λ k l alive. link k l alive (ℕ_discrete k i) };
  }
    where
      own : ℕ
      own = chain_of (label_at t kind i)

      head : (b : ℕ) → b < chains → Dec (b ≡ own) → Link t kind b (i + 1) (get_or (set last own (i + 1)) b 0)
      head b l (no e) = rw (get_or-set_other last own b (i + 1) 0 e) (link_later b i (get_or last b 0) (c.heads b l) (λ alive q. e (sym q)))
      head b l (yes e) =
          rw (e, get_or-set_same last own (i + 1) 0 (omega arith))
          record { below = omega arith; there = λ k q. (let same : k ≡ i = omega arith in rw same (live, refl)); between = λ k p q. absurd (omega arith) }

      link : (k : ℕ) → k < i + 1 → is_live t kind k ≡ true → Dec (k ≡ i) → Link t kind (chain_of (label_at t kind k)) k (get_or (set before i (get_or last own 0)) k 0)
      link k l alive (no e) = rw (get_or-set_other before i k (get_or last own 0) 0 e) (c.links.at k (omega arith) alive)
      link k l alive (yes e) = rw (e, get_or-set_same before i (get_or last own 0) 0 m) (c.heads own (omega arith))
