-- Names by chains, so that an entry is compared with few others: entries of one chain are linked, each to the last one before it.
use Rattle.std.specs.Prelude.{ℕ, ◌+◌, ◌*◌, ◌/◌, ◌%◌, ◌≤◌, ◌<◌, ◌≡◌, Bool, true, not, List, get_or}
use Rattle.words.specs.declared.layout.Kind.{Kind}
use Rattle.logic.specs.Search.{all_b}
use Rattle.words.specs.Fields.{name_in}
use Rattle.tables.specs.View.{is_live, label_at}
use Rattle.tables.specs.Sound.{same_name}

-- no entry before i has its name
abbrev pub is_new : List ℕ → Kind → ℕ → Bool
is_new t kind i = all_b i (λ j. not (same_name (label_at t kind i) (label_at t kind j)))

abbrev pub chains : ℕ
chains = 128

-- by the name, its bits mixed
abbrev pub chain_of : ℕ → ℕ
chain_of w = name_in w * 0x85eb_ca6b / 0x200_0000 % chains

-- the link to the last entry of chain b before entry i: that entry's number and 1, or 0 if there is none
pub record Link (t : List ℕ) (kind : Kind) (b i link : ℕ) : Type 0 where
  pub below : link ≤ i
  pub there : (k : ℕ) → link ≡ k + 1 → (is_live t kind k ≡ true) × (chain_of (label_at t kind k) ≡ b)
  pub between : (k : ℕ) → link ≤ k → k < i → is_live t kind k ≡ true → chain_of (label_at t kind k) ≡ b → ⊥

-- every live entry before i has the link of its chain
pub record Links (t : List ℕ) (kind : Kind) (before : List ℕ) (i : ℕ) : Type 0 where
  pub at : (k : ℕ) → k < i → is_live t kind k ≡ true → Link t kind (chain_of (label_at t kind k)) k (get_or before k 0)
