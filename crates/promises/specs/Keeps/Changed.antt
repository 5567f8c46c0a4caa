-- Operations that change the working table: the state stays sound.
use Rattle.std.specs.Prelude.{◌≡◌, refl, Bool, true, false, cond, List, ℕ, ◌≤◌, ◌<◌, ltb, None}
use Rattle.std.proofs.Common.{arith, ltb-true}
use Rattle.tables.specs.Laws.Sound.{live_below_lem}
use Rattle.words.specs.declared.layout.Kind.{Kind}
use Rattle.words.specs.declared.layout.Kind.TheVariants.{Model, SchemaInstance, Instance}
use Rattle.words.specs.Layout.{count_of}
use Rattle.words.specs.Sets.{remove}
use Rattle.words.specs.Fields.{label_of, header_of, name_in, repository_in, schema_in, repositories, values, with_flag, without_flag}
use Rattle.words.specs.Entries.{free_at, next_free, is_taken}
use Rattle.words.specs.Laws.Fields.{name_of_label, repository_of_label}
use Rattle.words.specs.Laws.Layout.{kinds_apart}
use Rattle.words.specs.Laws.Entries.{word_other, entry_other, made_other}
use Rattle.words.proofs.Found.{next_is_free}
use Rattle.dictionary.specs.Dictionary.{is_type, schema_of, attribute_of, lacks}
use Rattle.dictionary.specs.Laws.Types.{small_type}
use Rattle.dictionary.proofs.Laws.Attributes.{attributes_few, attribute_count}
use Rattle.tables.specs.View.{is_live, label_at, header_at, type_at}
use Rattle.tables.specs.Sound.{may_join, sound_value}
use Rattle.tables.specs.declared.changes.Change.TheVariants.{Made, Gone, Joined, Left, Put, Unset}
use Rattle.tables.specs.Deletions.{goes_with, swept}
use Rattle.tables.specs.Changes.{apply}
use Rattle.state.specs.declared.state.Session.{Session}
use Rattle.state.specs.Refusals.{done}
use Rattle.state.specs.States.{RW, is_open, under, with_access}
use Rattle.session.specs.Effects.{Changed, Effect, does, full, created, working_after, kept_after}
use Rattle.logic.specs.Laws.Bools.{clash}
use Rattle.promises.specs.Keeps.Facts.{SoundTable}
use Rattle.promises.specs.Keeps.SessionFacts.{Sound}
use Rattle.promises.specs.Keeps.Frame.{live_not_free}
use Rattle.promises.specs.Keeps.Group.{label_made, made_model, made_group, dissolved_group, joined_group, left_group}
use Rattle.promises.specs.Keeps.Written.{written_rest}
use Rattle.promises.specs.Keeps.Values.{made_instance, put_attribute, unset_attribute}
use Rattle.promises.specs.Keeps.Swept.{sweeps}
use Rattle.promises.specs.Keeps.Removed.{swept_model, deleted_sound, removed_sound, removed_others}
use Rattle.promises.specs.Keeps.Afterwards.{Leaves, table_changed}
use Rattle.promises.specs.Keeps.Access.{access_gone}

-- the state after an effect is sound
abbrev pub After : Session → List ℕ → List ℕ → Effect → Type 0
After x w k e = Leaves x.log e.state (working_after e.tables w k) (kept_after e.tables w k)

-- an attribute that a type has is one of four
pub few_attributes : (t k : ℕ) → lacks (attribute_of t k) ≡ false → k < values
few_attributes t k e = omega (arith, attributes_few t, attribute_count t k (λ z. clash (lacks None) refl (rw z at e)))

module _ (x : Session) (w k : List ℕ) (h : Sound x w k) (opened : is_open x.state ≡ true) (writes : under x.state RW ≡ true) where
  good : SoundTable w
  good = h.tables.working

  -- a creation, where there is room
  creation : (kind : Kind) (first : ℕ)
      → (next_free w kind < count_of kind → free_at w kind (next_free w kind) ≡ true → After x w k (does (next_free w kind) x.state (Changed (Made kind (next_free w kind) first))))
      → (created kind first x.state w).refusal ≡ done → After x w k (created kind first x.state w)
  creation kind first there e = by_cases (ltb (next_free w kind) (count_of kind)) refl e
    where
      by_cases : (b : Bool) → ltb (next_free w kind) (count_of kind) ≡ b
          → (cond b (does (next_free w kind) x.state (Changed (Made kind (next_free w kind) first))) (full kind x.state)).refusal ≡ done
          → After x w k (cond b (does (next_free w kind) x.state (Changed (Made kind (next_free w kind) first))) (full kind x.state))
      by_cases true l e = there (ltb-true _ _ l) (next_is_free w kind (ltb-true _ _ l))
      by_cases false l e = absurd (omega arith)

  module _ (a b c : ℕ) (hr : a < repositories) (from : 1 ≤ b) (to : b ≤ 2) (hc : c < 0x1_0000_0000) where
    own_name : (kind : Kind) → is_taken w kind a c ≡ false → is_taken w kind (repository_in (label_of a b c)) (name_in (label_of a b c)) ≡ false
    own_name kind e = rw (repository_of_label a b c (omega arith) (omega arith) hc, name_of_label a b c (omega arith) (omega arith) hc) e

    pub model_created : is_taken w Model a c ≡ false → (created Model (label_of a b c) x.state w).refusal ≡ done
        → After x w k (created Model (label_of a b c) x.state w)
    unfolding apply
    model_created free e =
        creation Model (label_of a b c)
        (λ l f. table_changed x w _ k h opened writes
        (made_model w (next_free w Model) (label_of a b c) good l f (label_made a b c hr from to hc) (own_name Model free))
        (λ m live. made_other w Model (next_free w Model) _ Model m 0 (λ _ same. clash _ f (live_not_free w Model (next_free w Model) (rw same live)))))
        e

    pub group_created : is_taken w SchemaInstance a c ≡ false → (created SchemaInstance (label_of a b c) x.state w).refusal ≡ done
        → After x w k (created SchemaInstance (label_of a b c) x.state w)
    unfolding apply
    group_created free e =
        creation SchemaInstance (label_of a b c)
        (λ l f. table_changed x w _ k h opened writes
        (made_group w (next_free w SchemaInstance) (label_of a b c) good l (label_made a b c hr from to hc) (own_name SchemaInstance free))
        (λ m live. made_other w SchemaInstance (next_free w SchemaInstance) _ Model m 0 (λ e _. kinds_apart e refl)))
        e

  pub instance_created : (a b : ℕ) → is_live w Model a ≡ true → is_type b ≡ true → schema_in (label_at w Model a) ≡ schema_of b
      → (created Instance (header_of b a 0) x.state w).refusal ≡ done
      → After x w k (created Instance (header_of b a 0) x.state w)
  unfolding apply
  instance_created a b live there schema e =
      creation Instance (header_of b a 0)
      (λ l f. table_changed x w _ k h opened writes
      (made_instance w (next_free w Instance) b a good l f (small_type b there) there live schema)
      (λ m live. made_other w Instance (next_free w Instance) _ Model m 0 (λ e _. kinds_apart e refl)))
      e

  pub group_deleted : (s : ℕ) → is_live w SchemaInstance s ≡ true → After x w k (does 0 x.state (Changed (Gone SchemaInstance s)))
  unfolding apply
  group_deleted s live =
      table_changed x w _ k h opened writes
      (dissolved_group w s good (live_below_lem w SchemaInstance s live))
      (λ m _. entry_other w SchemaInstance s _ Model m 0 (λ e _. kinds_apart e refl))

  pub group_joined : (v s m : ℕ) → is_live w SchemaInstance s ≡ true → may_join w s m ≡ true → After x w k (does v x.state (Changed (Joined s m)))
  unfolding apply
  group_joined v s m live may =
      table_changed x w _ k h opened writes (joined_group w s m good live may)
      (λ n _. word_other w SchemaInstance s 1 _ Model n 0 (λ q. kinds_apart q.kinds refl))

  pub group_left : (v s m : ℕ) → is_live w SchemaInstance s ≡ true → After x w k (does v x.state (Changed (Left s m)))
  unfolding apply
  group_left v s m live =
      table_changed x w _ k h opened writes (left_group w s m good (live_below_lem w SchemaInstance s live))
      (λ n _. word_other w SchemaInstance s 1 _ Model n 0 (λ q. kinds_apart q.kinds refl))

  pub attribute_put : (i j v : ℕ) → is_live w Instance i ≡ true → lacks (attribute_of (type_at w i) j) ≡ false
      → sound_value w (attribute_of (type_at w i) j) true v ≡ true → After x w k (does 0 x.state (Changed (Put i j v)))
  unfolding apply
  attribute_put i j v live there value =
      let few : j < values = few_attributes (type_at w i) j there in
      table_changed x w _ k h opened writes (put_attribute w i j good live few v value)
      (λ n _. (written_rest w i j v (with_flag (header_at w i) j) (live_below_lem w Instance i live) few good.long).others Model n 0 (λ e _. kinds_apart e refl))

  pub attribute_unset : (i j : ℕ) → is_live w Instance i ≡ true → lacks (attribute_of (type_at w i) j) ≡ false
      → After x w k (does 0 x.state (Changed (Unset i j)))
  unfolding apply
  attribute_unset i j live there =
      let few : j < values = few_attributes (type_at w i) j there in
      table_changed x w _ k h opened writes (unset_attribute w i j good live few)
      (λ n _. (written_rest w i j 0 (without_flag (header_at w i) j) (live_below_lem w Instance i live) few good.long).others Model n 0 (λ e _. kinds_apart e refl))

  pub instance_deleted : (i : ℕ) → After x w k (does 0 x.state (Changed (Gone Instance i)))
  unfolding apply
  instance_deleted i =
      table_changed x w _ k h opened writes (deleted_sound w i good)
      (λ n _. swept_model (goes_with w Instance i) w (swept w (goes_with w Instance i) (count_of Instance)) good (sweeps (goes_with w Instance i) w (count_of Instance) (omega arith) good.long) n 0)

  pub model_deleted : (m : ℕ) → is_live w Model m ≡ true
      → After x w k (does 0 (with_access x.state (remove x.state.ro m) (remove x.state.rw m)) (Changed (Gone Model m)))
  model_deleted m live =
      let here : m < count_of Model = live_below_lem w Model m live in
      access_gone x w k h opened m (apply (Gone Model m) w)
      (record { working = removed_sound w m good here; kept = h.tables.kept; agreeing = λ e. clash _ writes e })
      (λ n apart. removed_others w m good here n apart)
