-- The fields: packing and unpacking undo each other, and a test that is passed gives its facts.
use Rattle.std.specs.Prelude.{◌≡◌, refl, Bool, true, false, ◌&&◌, ◌||◌, not, ℕ, zero, suc, ◌+◌, ◌*◌, ◌%◌, ◌≤◌, ◌<◌, eqb}
use Rattle.std.proofs.Common.{ap, ◌∙◌, arith, lit<, lt-ltb, eq-eqb, ne_eqb, eqb-true}
use Rattle.std.proofs.lemmas.Bool.{eqb-false}
use Rattle.words.specs.declared.layout.Kind.TheVariants.{Model}
use Rattle.words.specs.Layout.{count_of}
use Rattle.words.specs.Sets.{bit_of, has}
use Rattle.words.specs.Fields.{label_of, name_in, repository_in, schema_in, repositories, is_label, header_of, type_in, model_in, flags_in, values, is_header, flagged, with_flag, without_flag, is_free}
use Rattle.logic.specs.Laws.Decides.{Decides, both, less, at_most, restated}
use Rattle.words.specs.Laws.Sets.{has_none, has_insert, has_remove}

-- ---- labels

module _ (repository schema name : ℕ) (hr : repository < 256) (hs : schema < 256) (hn : name < 0x1_0000_0000) where
  pub name_of_label : name_in (label_of repository schema name) ≡ name
  name_of_label = omega arith

  pub repository_of_label : repository_in (label_of repository schema name) ≡ repository
  repository_of_label = omega arith

  pub schema_of_label : schema_in (label_of repository schema name) ≡ schema
  schema_of_label = omega arith

-- repository and name at once, in a test with any other condition
pub named_at_once : (b : Bool) (w repository name : ℕ) → name < 0x1_0000_0000
    → (b && eqb (w % 0x100_0000_0000) (name + 0x1_0000_0000 * repository)) ≡ (b && eqb (repository_in w) repository && eqb (name_in w) name)
named_at_once false w repository name h = refl
named_at_once true w repository name h = tell (eqb (repository_in w) repository) (eqb (name_in w) name) refl refl
  where
    tell : (b c : Bool) → eqb (repository_in w) repository ≡ b → eqb (name_in w) name ≡ c → eqb (w % 0x100_0000_0000) (name + 0x1_0000_0000 * repository) ≡ (b && c)
    tell true true p q = eq-eqb (w % 0x100_0000_0000) (name + 0x1_0000_0000 * repository) (omega (arith, eqb-true (repository_in w) repository p, eqb-true (name_in w) name q))
    tell true false p q = ne_eqb (w % 0x100_0000_0000) (name + 0x1_0000_0000 * repository) (λ e. eqb-false (name_in w) name q (omega arith))
    tell false c p q = ne_eqb (w % 0x100_0000_0000) (name + 0x1_0000_0000 * repository) (λ e. eqb-false (repository_in w) repository p (omega arith))

pub record Label (w : ℕ) : Type 0 where
  pub small : w < 0x1_0000_0000_0000
  pub repository : repository_in w < repositories
  pub schema_from : 1 ≤ schema_in w
  pub schema_to : schema_in w ≤ 2

pub label_test : (w : ℕ) → Decides (is_label w) (Label w)
label_test w =
    restated (both _ _ (both _ _ (less w 0x1_0000_0000_0000) (less (repository_in w) repositories)) (both _ _ (at_most 1 (schema_in w)) (at_most (schema_in w) 2)))
    (λ h. record { small = h.0.0; repository = h.0.1; schema_from = h.1.0; schema_to = h.1.1 })
    (λ h. ((h.small, h.repository), (h.schema_from, h.schema_to)))

-- a label is what its fields make
pub label_of_fields : (w : ℕ) → Label w → label_of (repository_in w) (schema_in w) (name_in w) ≡ w
label_of_fields w h = omega arith

pub label_is_live : (w : ℕ) → Label w → is_free w ≡ false
label_is_live w h = ne_eqb w 0 (λ e. omega arith)

-- ---- headers

module _ (type model flags : ℕ) (ht : type < 255) (hm : model < 256) (hf : flags < 256) where
  pub type_of_header : type_in (header_of type model flags) ≡ type
  type_of_header = omega arith

  pub model_of_header : model_in (header_of type model flags) ≡ model
  model_of_header = omega arith

  pub flags_of_header : flags_in (header_of type model flags) ≡ flags
  flags_of_header = omega arith

pub record Header (h : ℕ) : Type 0 where
  pub small : h < 0x10_0000
  pub typed : 1 ≤ h % 256
  pub model : model_in h < count_of Model

pub header_test : (h : ℕ) → Decides (is_header h) (Header h)
header_test h =
    restated (both _ _ (both _ _ (less h 0x10_0000) (at_most 1 (h % 256))) (less (model_in h) (count_of Model)))
    (λ w. record { small = w.0.0; typed = w.0.1; model = w.1 })
    (λ w. ((w.small, w.typed), w.model))

header_parts : (h : ℕ) → Header h → 1 + type_in h + 0x100 * model_in h + 0x1_0000 * flags_in h ≡ h
header_parts h w = omega arith

-- a header is what its fields make
pub header_of_fields : (h : ℕ) → Header h → header_of (type_in h) (model_in h) (flags_in h) ≡ h
header_of_fields h w =
    let types : type_in h % 256 ≡ type_in h = omega arith in
    let models : model_in h % 256 ≡ model_in h = omega arith in
    let flags : flags_in h % 256 ≡ flags_in h = omega arith in
    rw (types, models, flags) (header_parts h w)

pub header_is_live : (h : ℕ) → Header h → is_free h ≡ false
header_is_live h w = ne_eqb h 0 (λ e. omega arith)

-- ---- flags: one flag alone changes, and a header stays one

-- what the low sixteen bits of a header say
pub record Alike (h h' : ℕ) : Type 0 where
  pub types : type_in h' ≡ type_in h
  pub models : model_in h' ≡ model_in h
  pub header : Header h → Header h'

alike : (h h' : ℕ) → h' % 0x1_0000 ≡ h % 0x1_0000 → (h < 0x10_0000 → h' < 0x10_0000) → Alike h h'
alike h h' e small = record { types = omega arith; models = omega arith; header = λ w. kept w (small w.small) }
  where
    kept : Header h → h' < 0x10_0000 → Header h'
    kept w s = record { small = s; typed = omega arith; model = omega arith }

pub alike_with : (h k : ℕ) → k < values → Alike h (with_flag h k)
alike_with h zero l = alike h (with_flag h 0) (omega arith) (λ s. omega arith)
alike_with h (suc zero) l = alike h (with_flag h 1) (omega arith) (λ s. omega arith)
alike_with h (suc (suc zero)) l = alike h (with_flag h 2) (omega arith) (λ s. omega arith)
alike_with h (suc (suc (suc zero))) l = alike h (with_flag h 3) (omega arith) (λ s. omega arith)
alike_with h (suc (suc (suc (suc k)))) l = absurd (omega arith)

pub alike_without : (h k : ℕ) → k < values → Alike h (without_flag h k)
alike_without h zero l = alike h (without_flag h 0) (omega arith) (λ s. omega arith)
alike_without h (suc zero) l = alike h (without_flag h 1) (omega arith) (λ s. omega arith)
alike_without h (suc (suc zero)) l = alike h (without_flag h 2) (omega arith) (λ s. omega arith)
alike_without h (suc (suc (suc zero))) l = alike h (without_flag h 3) (omega arith) (λ s. omega arith)
alike_without h (suc (suc (suc (suc k)))) l = absurd (omega arith)

shifted : (j k : ℕ) → eqb (16 + j) (16 + k) ≡ eqb j k
shifted j k = tell (eqb j k) refl
  where
    tell : (b : Bool) → eqb j k ≡ b → eqb (16 + j) (16 + k) ≡ b
    tell true p = eq-eqb (16 + j) (16 + k) (ap (λ (x : ℕ). 16 + x) (eqb-true j k p))
    tell false p = ne_eqb (16 + j) (16 + k) (λ e. eqb-false j k p (omega arith))

module _ (h k j : ℕ) (hk : k < values) (hj : j < values) where
  pub flagged_with : flagged (with_flag h k) j ≡ (eqb j k || flagged h j)
  flagged_with = rw (lt-ltb k values hk, lt-ltb j values hj) (has_insert h (16 + k) (16 + j) (omega arith) ∙ ap (λ (b : Bool). b || has h (16 + j)) (shifted j k))

  pub flagged_without : flagged (without_flag h k) j ≡ (not (eqb j k) && flagged h j)
  flagged_without = rw (lt-ltb k values hk, lt-ltb j values hj) (has_remove h (16 + k) (16 + j) ∙ ap (λ (b : Bool). not b && has h (16 + j)) (shifted j k))

-- a flag is a bit of the flags
pub flag_of_flags : (h k : ℕ) → k < values → flagged h k ≡ has (flags_in h) k
flag_of_flags h zero l =
    let e : bit_of h 16 ≡ bit_of (flags_in h) 0 = omega arith in
    ap (λ (b : ℕ). eqb b 1) e
flag_of_flags h (suc zero) l =
    let e : bit_of h 17 ≡ bit_of (flags_in h) 1 = omega arith in
    ap (λ (b : ℕ). eqb b 1) e
flag_of_flags h (suc (suc zero)) l =
    let e : bit_of h 18 ≡ bit_of (flags_in h) 2 = omega arith in
    ap (λ (b : ℕ). eqb b 1) e
flag_of_flags h (suc (suc (suc zero))) l =
    let e : bit_of h 19 ≡ bit_of (flags_in h) 3 = omega arith in
    ap (λ (b : ℕ). eqb b 1) e
flag_of_flags h (suc (suc (suc (suc k)))) l = absurd (omega arith)

-- a new header has no flag
pub no_flag : (type model k : ℕ) → type < 255 → model < 256 → k < values → flagged (header_of type model 0) k ≡ false
no_flag type model k ht hm hk = flag_of_flags (header_of type model 0) k hk ∙ rw (flags_of_header type model 0 ht hm (lit< tt)) (has_none k)
