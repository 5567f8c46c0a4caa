-- Document 01's ten records: what remains before the abort and after it, and what that makes live and set.
use Rattle.std.specs.Prelude.{ℕ, ◌≡◌, refl, false, List, [], ◌∷◌, reverse, drop}
use Rattle.std.proofs.Common.{⊎_elim}
use Rattle.logic.specs.Laws.Bools.{clash}
use Rattle.words.specs.declared.layout.Kind.{Kind}
use Rattle.words.specs.declared.layout.Kind.TheVariants.{Model, SchemaInstance, Instance}
use Rattle.dictionary.specs.Dictionary.{the_table}
use Rattle.session.specs.Runs.{Call, call, Answered}
use Rattle.promises.specs.Records.{◌gives◌, ten_records}
use Rattle.history.specs.Remains.{remaining_if, remaining}
use Rattle.history.specs.Live.{now, still, LiveModel, LiveInstance, Live, SetTo}
use Rattle.history.specs.Demand3.{tried_first}
use Rattle.history.proofs.Since.{since_cases, since_nothing}

-- the history of the ten, and that of the first eight
abbrev pub ten : List Answered
ten = reverse ten_records

abbrev pub eight : List Answered
eight = drop 2 ten

-- before the abort all remain: model 0 and instance 0 are live, and attribute 0 holds 5
pub all_remain : remaining eight ≡ eight
unfolding remaining remaining_if
all_remain = refl

pub model_live : LiveModel 0 (call 20 0 1 7) eight
model_live = still (still (still (still (now (refl, refl)) refl) refl) refl) refl

pub instance_live : LiveInstance 0 (call 40 0 2 0) eight
instance_live = still (still (now (refl, refl)) refl) refl

pub holds_five : SetTo 0 0 5 eight
unfolding SetTo the_table
holds_five = (call 40 0 2 0, call 40 0 2 0, still (now (record { put = refl; value = refl; instance = now (refl, refl); named = λ q. clash false q refl })) refl)

-- one past the last number given: instance 1 is tried first
pub one_tried : tried_first Instance eight ≡ 1
unfolding tried_first
one_tried = refl

-- after it the abort alone remains: the refused 42 is struck out, and what came before is dropped; nothing is live
pub abort_remains : remaining ten ≡ call 8 0 0 0 gives (0, 0, 0) ∷ []
unfolding remaining remaining_if
abort_remains = refl

-- .. and instance 0 again
pub none_tried : tried_first Instance (remaining ten) ≡ 0
unfolding tried_first remaining remaining_if
none_tried = refl

pub nothing_live : (kind : Kind) (n : ℕ) (q : Call) → Live kind n q (remaining ten) → ⊥
unfolding remaining remaining_if
nothing_live Model n q l = ⊎_elim (λ p. clash _ p.0 refl) (λ p. since_nothing p.0) (since_cases l)
nothing_live SchemaInstance n q l = ⊎_elim (λ p. clash _ p.0 refl) (λ p. since_nothing p.0) (since_cases l)
nothing_live Instance n q l = ⊎_elim (λ p. clash _ p.0 refl) (λ p. since_nothing p.0) (since_cases l)
