-- The tests on a call by its operation number beside those on the change that it says: one table over all operations.
use Rattle.std.specs.Prelude.{ℕ, zero, suc, ◌≡◌, Bool, cond, ◌||◌, ◌&&◌, ◌⊎◌, List, [], ◌∷◌}
use Rattle.std.proofs.Math.Path.{refl}
use Rattle.std.proofs.Common.{ap, sym, ◌∙◌, eq-eqb, eqb-true}
use Rattle.std.proofs.Math.Bool.{true, false, or-false, and-false}
use Rattle.std.proofs.Math.Logic.{inl, inr}
use Rattle.std.proofs.Math.Dec.{eqb}
use Rattle.logic.specs.Laws.Bools.{and_left, and_right, clash}
use Rattle.words.specs.declared.layout.Kind.{Kind}
use Rattle.words.specs.declared.layout.Kind.TheVariants.{Model, SchemaInstance, Instance}
use Rattle.words.specs.Layout.{index_of}
use Rattle.words.specs.Fields.{label_of, header_of, model_in}
use Rattle.dictionary.specs.Dictionary.{is_reference, attribute_of}
use Rattle.tables.specs.declared.changes.Change.{Change}
use Rattle.tables.specs.declared.changes.Change.TheVariants.{Made, Gone, Joined, Left, Put, Unset}
use Rattle.checks.specs.declared.operations.Operation.{Operation}
use Rattle.checks.specs.declared.operations.Operation.TheVariants as operation
use Rattle.checks.specs.declared.operations.Writer.{Writer}
use Rattle.checks.specs.declared.operations.Writer.TheVariants as writer
use Rattle.state.specs.Refusals.{done}
use Rattle.checks.specs.Operations.{Numbered, listed, lookup, operation_of}
use Rattle.checks.specs.Laws.Operations.{the_list}
use Rattle.session.specs.Runs.{Call, Answered}
use Rattle.history.specs.Remains.{is, of, of_both, gave, drops, commits}
use Rattle.history.specs.Live.{ends, parts, is_r, undoes}
use Rattle.history.specs.Demand3.{Asked, creation_of, deletion_of}
use Rattle.history.proofs.Saying.{Said, changes, saying, first_word, same_entry, makes, takes, joins, leaves, puts, unsets, word_for, value_put}
use Rattle.history.proofs.Saying.{deletes, names, parted_by, refers_by, undone_by}
use Rattle.history.proofs.Saying as said

-- ---- the number of an operation

pub is_number : (k : ℕ) (x : Answered) → is k x ≡ true → x.call.op ≡ k
is_number k x h = eqb-true x.call.op k h

pub gave_number : (k n : ℕ) (x : Answered) → gave k n x ≡ true → x.call.op ≡ k
gave_number k n x h = is_number k x (and_left (is k x) (eqb x.value n) h)

pub both_is : (k n m : ℕ) (x : Answered) → of_both k n m x ≡ true → is k x ≡ true
both_is k n m x h = and_left (is k x) (eqb x.call.a n) (and_left (of k n x) (eqb x.call.b m) h)

-- the writer that makes an entry of each kind
abbrev pub creator : Kind → Writer
creator Model = writer.CreateModel
creator SchemaInstance = writer.CreateSchemaInstance
creator Instance = writer.CreateInstance

pub creation_is : (kind : Kind) → operation_of (creation_of kind) ≡ operation.Writer (creator kind)
unfolding the_list
creation_is Model = refl
creation_is SchemaInstance = refl
creation_is Instance = refl

-- ---- the tests, side by side

pub record Tests : Type 0 where
  pub drops : Bool
  pub commits : Bool
  pub models : ℕ → Bool
  pub groups : ℕ → Bool
  pub instances : ℕ → Bool
  pub no_models : ℕ → Bool
  pub no_groups : ℕ → Bool
  pub no_instances : ℕ → Bool
  pub joins : ℕ → ℕ → Bool
  pub leaves : ℕ → ℕ → Bool
  pub puts : ℕ → ℕ → Bool
  pub unsets : ℕ → ℕ → Bool
  pub model_word : ℕ
  pub group_word : ℕ
  pub instance_word : ℕ
  pub value_put_lem : ℕ

abbrev pub asked : Answered → Tests
asked x = record {
  drops = drops x;
  commits = commits x;
  models = λ n. gave 20 n x;
  groups = λ n. gave 30 n x;
  instances = λ n. gave 40 n x;
  no_models = λ n. of 21 n x;
  no_groups = λ n. of 31 n x;
  no_instances = λ n. of 41 n x;
  joins = λ n m. of_both 32 n m x;
  leaves = λ n m. of_both 33 n m x;
  puts = λ n m. of_both 44 n m x;
  unsets = λ n m. of_both 45 n m x;
  model_word = cond (is 20 x) (label_of x.call.a x.call.b x.call.c) 0;
  group_word = cond (is 30 x) (label_of x.call.a x.call.b x.call.c) 0;
  instance_word = cond (is 40 x) (header_of x.call.b x.call.a 0) 0;
  value_put_lem = cond (is 44 x) x.call.c 0;
}

abbrev pub is_drop : Said → Bool
is_drop said.silent = false
is_drop (said.changes c) = false
is_drop said.commits = false
is_drop said.drops = true

abbrev pub is_commit : Said → Bool
is_commit said.silent = false
is_commit (said.changes c) = false
is_commit said.commits = true
is_commit said.drops = false

-- some change is said, and passes the test
abbrev pub in_said : (Change → Bool) → Said → Bool
in_said f said.silent = false
in_said f (said.changes c) = f c
in_said f said.commits = false
in_said f said.drops = false

abbrev pub word_said : (Change → ℕ) → Said → ℕ
word_said f said.silent = 0
word_said f (said.changes c) = f c
word_said f said.commits = 0
word_said f said.drops = 0

abbrev pub told : Said → Tests
told s = record {
  drops = is_drop s;
  commits = is_commit s;
  models = λ n. in_said (makes Model n) s;
  groups = λ n. in_said (makes SchemaInstance n) s;
  instances = λ n. in_said (makes Instance n) s;
  no_models = λ n. in_said (takes Model n) s;
  no_groups = λ n. in_said (takes SchemaInstance n) s;
  no_instances = λ n. in_said (takes Instance n) s;
  joins = λ n m. in_said (joins n m) s;
  leaves = λ n m. in_said (leaves n m) s;
  puts = λ n m. in_said (puts n m) s;
  unsets = λ n m. in_said (unsets n m) s;
  model_word = word_said (word_for Model) s;
  group_word = word_said (word_for SchemaInstance) s;
  instance_word = word_said (word_for Instance) s;
  value_put_lem = word_said value_put s;
}

-- a call that is done, with this value; and as one of another number
abbrev pub done_by : Call → ℕ → Answered
done_by q value = record { call = q; refusal = done; place = 0; value = value }

abbrev done_as : Call → ℕ → ℕ → Answered
done_as q value op = done_by (record { op = op; a = q.a; b = q.b; c = q.c; small = q.small }) value

-- the call is asked by its number what it says by its operation
abbrev Reads : Call → ℕ → ℕ → Operation → Type 0
Reads q value op o = asked (done_as q value op) ≡ told (saying o q.a q.b q.c value)

infixr 50 ◌also◌
data AllRead (q : Call) (value : ℕ) : List Numbered → Type 0 where
  no_more : AllRead q value []
  ◌also◌ : {row : Numbered} {rows : List Numbered} → Reads q value row.number row.names → AllRead q value rows → AllRead q value (row ∷ rows)

module _ (q : Call) (value : ℕ) where
  -- one `refl` for each row of the list of operations
  all_read : AllRead q value listed
  unfolding listed
  all_read =
      refl also refl also refl also refl also refl also refl also refl also refl also refl also refl also refl also refl also refl also refl also refl
      also refl also refl also refl also refl also refl also refl also refl also refl also refl also refl also refl also refl also refl also refl also refl also no_more

  found : (n : ℕ) (rows : List Numbered) → AllRead q value rows → (lookup n rows ≡ operation.Unlisted) ⊎ Reads q value n (lookup n rows)
  unfolding lookup
  found n all no_more = inl refl
  found n all (◌also◌ {row} {rows} e es) = by_cases (eqb n row.number) refl (found n rows es)
    where
      by_cases : (b : Bool) → eqb n row.number ≡ b → (lookup n rows ≡ operation.Unlisted) ⊎ Reads q value n (lookup n rows)
          → (cond b row.names (lookup n rows) ≡ operation.Unlisted) ⊎ Reads q value n (cond b row.names (lookup n rows))
      by_cases true p later = inr (rw (eqb-true n row.number p) e)
      by_cases false p later = later

  pub reads : (operation_of q.op ≡ operation.Unlisted) ⊎ (asked (done_by q value) ≡ told (saying (operation_of q.op) q.a q.b q.c value))
  unfolding operation_of
  reads = found q.op listed all_read

-- ---- the same by kind

either : {a a' b b' : Bool} → a ≡ a' → b ≡ b' → (a || b) ≡ (a' || b')
either p q = rw (p, q)

module _ (x : Answered) (s : Said) (r : asked x ≡ told s) where
  pub gave_said : (kind : Kind) (n : ℕ) → gave (creation_of kind) n x ≡ in_said (makes kind n) s
  gave_said Model n = ap (λ (t : Tests). t.models n) r
  gave_said SchemaInstance n = ap (λ (t : Tests). t.groups n) r
  gave_said Instance n = ap (λ (t : Tests). t.instances n) r

  pub of_said : (kind : Kind) (n : ℕ) → of (deletion_of kind) n x ≡ in_said (takes kind n) s
  of_said Model n = ap (λ (t : Tests). t.no_models n) r
  of_said SchemaInstance n = ap (λ (t : Tests). t.no_groups n) r
  of_said Instance n = ap (λ (t : Tests). t.no_instances n) r

  word_said_lem : (kind : Kind) → cond (is (creation_of kind) x) (first_word kind x.call.a x.call.b x.call.c) 0 ≡ word_said (word_for kind) s
  word_said_lem Model = ap (λ (t : Tests). t.model_word) r
  word_said_lem SchemaInstance = ap (λ (t : Tests). t.group_word) r
  word_said_lem Instance = ap (λ (t : Tests). t.instance_word) r

  pub parts_said : (n m : ℕ) → parts n m x ≡ (in_said (makes SchemaInstance n) s || in_said (takes SchemaInstance n) s || in_said (leaves n m) s || in_said (takes Model m) s)
  parts_said n m = either (either (either (gave_said SchemaInstance n) (of_said SchemaInstance n)) (ap (λ (t : Tests). t.leaves n m) r)) (of_said Model m)

-- ---- what a change is, by its tests

kind_at : ℕ → Kind
kind_at zero = Model
kind_at (suc zero) = SchemaInstance
kind_at (suc (suc n)) = Instance

kind_at_lem : (kind : Kind) → kind_at (index_of kind) ≡ kind
unfolding kind_at
kind_at_lem Model = refl
kind_at_lem SchemaInstance = refl
kind_at_lem Instance = refl

made_is : (kind : Kind) (n : ℕ) (c : Change) → makes kind n c ≡ true → c ≡ Made kind n (word_for kind c)
made_is kind n (Made other m first) h =
    let kinds : eqb (index_of other) (index_of kind) ≡ true = and_left _ (eqb m n) h in
    let same : other ≡ kind = sym (kind_at_lem other) ∙ ap kind_at (eqb-true _ _ kinds) ∙ kind_at_lem kind in
    rw (kinds) (ap (λ (k : Kind). Made k m first) same ∙ ap (λ (i : ℕ). Made kind i first) (eqb-true m n (and_right (eqb (index_of other) (index_of kind)) _ h)))
made_is kind n (Gone other m) h = clash _ h refl
made_is kind n (Joined s m) h = clash _ h refl
made_is kind n (Left s m) h = clash _ h refl
made_is kind n (Put i k v) h = clash _ h refl
made_is kind n (Unset i k) h = clash _ h refl

joined_is : (n l : ℕ) (c : Change) → joins n l c ≡ true → c ≡ Joined n l
joined_is n l (Made kind m first) h = clash _ h refl
joined_is n l (Gone kind m) h = clash _ h refl
joined_is n l (Joined s m) h = rw (eqb-true s n (and_left _ (eqb m l) h), eqb-true m l (and_right (eqb s n) _ h))
joined_is n l (Left s m) h = clash _ h refl
joined_is n l (Put i k v) h = clash _ h refl
joined_is n l (Unset i k) h = clash _ h refl

put_is : (n l : ℕ) (c : Change) → puts n l c ≡ true → c ≡ Put n l (value_put c)
put_is n l (Made kind m first) h = clash _ h refl
put_is n l (Gone kind m) h = clash _ h refl
put_is n l (Joined s m) h = clash _ h refl
put_is n l (Left s m) h = clash _ h refl
put_is n l (Put i k v) h = rw (eqb-true i n (and_left _ (eqb k l) h), eqb-true k l (and_right (eqb i n) _ h))
put_is n l (Unset i k) h = clash _ h refl

-- ---- what it ends, put together

parted_is : (n m : ℕ) (c : Change) → (makes SchemaInstance n c || takes SchemaInstance n c || leaves n m c || takes Model m c) ≡ parted_by n m c
parted_is n m (Made kind i first) = simp or-false
parted_is n m (Gone kind i) = simp or-false
parted_is n m (Joined s l) = refl
parted_is n m (Left s l) = simp or-false
parted_is n m (Put i k v) = refl
parted_is n m (Unset i k) = refl

names_is : (n first : ℕ) (c : Change) → (takes Instance n c || takes Model (model_in first) c) ≡ names c Instance n first
names_is n first (Made kind i w) = refl
names_is n first (Gone kind i) = refl
names_is n first (Joined s l) = refl
names_is n first (Left s l) = refl
names_is n first (Put i k v) = refl
names_is n first (Unset i k) = refl

-- an entry that only its own deletion ends
taken_is : (kind : Kind) (n first : ℕ) → ((other : Kind) (m : ℕ) → same_entry other m kind n ≡ deletes other m kind n first)
    → (c : Change) → takes kind n c ≡ names c kind n first
taken_is kind n first alone (Made other i w) = refl
taken_is kind n first alone (Gone other i) = alone other i
taken_is kind n first alone (Joined s l) = refl
taken_is kind n first alone (Left s l) = refl
taken_is kind n first alone (Put i k v) = refl
taken_is kind n first alone (Unset i k) = refl

undone_is : (i k v header target : ℕ) (c : Change)
    → (puts i k c || unsets i k c || makes Instance i c || names c Instance i header || (refers_by header k && names c Instance v target)) ≡ undone_by i k v header target c
undone_is i k v header target (Made kind n first) = simp (and-false, or-false)
undone_is i k v header target (Gone kind n) = refl
undone_is i k v header target (Joined s m) = and-false (refers_by header k)
undone_is i k v header target (Left s m) = and-false (refers_by header k)
undone_is i k v header target (Put j l u) = simp (and-false, or-false)
undone_is i k v header target (Unset j l) = simp (and-false, or-false)

-- ---- a call that says a change

-- the first word that a creation makes
abbrev pub word_asked : Kind → Call → ℕ
word_asked kind q = first_word kind q.a q.b q.c

-- the end of entry n of a kind, which the call q made
abbrev pub ended : Kind → ℕ → Call → Answered → Bool
ended Model n q x = of 21 n x
ended SchemaInstance n q x = of 31 n x
ended Instance n q x = ends n q x

-- the one who made an instance knows whether an attribute is a reference
pub refers_asked : (made : Call) (k : ℕ) → Asked Instance (word_asked Instance made) made → refers_by (word_asked Instance made) k ≡ is_r made k
refers_asked made k q = ap (λ (t : ℕ). is_reference (attribute_of t k)) q.1

module _ (x : Answered) (c : Change) (r : asked x ≡ told (changes c)) where
  pub made_said : (kind : Kind) (n : ℕ) → gave (creation_of kind) n x ≡ true → c ≡ Made kind n (word_asked kind x.call)
  made_said kind n h =
      let word : word_asked kind x.call ≡ word_for kind c = rw (and_left (is (creation_of kind) x) (eqb x.value n) h) at (word_said_lem x (changes c) r kind) in
      made_is kind n c (sym (gave_said x (changes c) r kind n) ∙ h) ∙ ap (Made kind n) (sym word)

  pub said_made : (kind : Kind) (n first : ℕ) → c ≡ Made kind n first → gave (creation_of kind) n x ≡ true
  said_made kind n first e = gave_said x (changes c) r kind n ∙ ap (makes kind n) e ∙ rw (eq-eqb (index_of kind) (index_of kind) refl, eq-eqb n n refl)

  pub joined_said : (n m : ℕ) → of_both 32 n m x ≡ true → c ≡ Joined n m
  joined_said n m h = joined_is n m c (ap (λ (t : Tests). t.joins n m) (sym r) ∙ h)

  pub said_joined : (n m : ℕ) → c ≡ Joined n m → of_both 32 n m x ≡ true
  said_joined n m e = ap (λ (t : Tests). t.joins n m) r ∙ ap (joins n m) e ∙ rw (eq-eqb n n refl, eq-eqb m m refl)

  put_value : (i k : ℕ) → of_both 44 i k x ≡ true → x.call.c ≡ value_put c
  put_value i k h = rw (both_is 44 i k x h) at (ap (λ (t : Tests). t.value_put_lem) r)

  pub put_said : (i k : ℕ) → of_both 44 i k x ≡ true → c ≡ Put i k x.call.c
  put_said i k h = put_is i k c (ap (λ (t : Tests). t.puts i k) (sym r) ∙ h) ∙ ap (Put i k) (sym (put_value i k h))

  pub said_put : (i k v : ℕ) → c ≡ Put i k v → of_both 44 i k x ≡ true
  said_put i k v e = ap (λ (t : Tests). t.puts i k) r ∙ ap (puts i k) e ∙ rw (eq-eqb i i refl, eq-eqb k k refl)

  pub parts_is : (n m : ℕ) → parts n m x ≡ parted_by n m c
  parts_is n m = parts_said x (changes c) r n m ∙ parted_is n m c

  ends_is : (n first : ℕ) (q : Call) → model_in first ≡ q.a → ends n q x ≡ names c Instance n first
  ends_is n first q e =
      either (of_said x (changes c) r Instance n) (ap (λ (m : ℕ). of 21 m x) (sym e) ∙ of_said x (changes c) r Model (model_in first)) ∙ names_is n first c

  pub ended_is : (kind : Kind) (n : ℕ) (q : Call) → Asked kind (word_asked kind q) q → ended kind n q x ≡ names c kind n (word_asked kind q)
  ended_is Model n q w = of_said x (changes c) r Model n ∙ taken_is Model n _ (λ other m. refl) c
  ended_is SchemaInstance n q w = of_said x (changes c) r SchemaInstance n ∙ taken_is SchemaInstance n _ (λ other m. refl) c
  ended_is Instance n q w = ends_is n (word_asked Instance q) q w.0

  pub undoes_is : (i k v : ℕ) (made target : Call) → Asked Instance (word_asked Instance made) made
      → (is_r made k ≡ true → Asked Instance (word_asked Instance target) target)
      → undoes i k v made target x ≡ undone_by i k v (word_asked Instance made) (word_asked Instance target) c
  undoes_is i k v made target w named =
      rw (ap (λ (t : Tests). t.puts i k) r, ap (λ (t : Tests). t.unsets i k) r, gave_said x (changes c) r Instance i, ends_is i (word_asked Instance made) made w.0, ← refers_asked made k w)
      (ap (λ (b : Bool). puts i k c || unsets i k c || makes Instance i c || names c Instance i (word_asked Instance made) || b) (by_cases (refers_by (word_asked Instance made) k) refl)
      ∙ undone_is i k v (word_asked Instance made) (word_asked Instance target) c)
    where
      by_cases : (b : Bool) → refers_by (word_asked Instance made) k ≡ b → (b && ends v target x) ≡ (b && names c Instance v (word_asked Instance target))
      by_cases true e = ends_is v (word_asked Instance target) target (named (sym (refers_asked made k w) ∙ e)).0
      by_cases false e = refl
