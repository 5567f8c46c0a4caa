-- Document 01's cases at the edges that are marked P, and its ten records: one list, and one theorem over it.
use Rattle.std.specs.Prelude.{◌≡◌, true, List, [], ◌∷◌, reverse, ℕ, ◌-◌, ◌^◌, take}
use Rattle.words.specs.Sets.{none, size_of}
use Rattle.words.specs.Fields.{label_of}
use Rattle.tables.specs.View.{header_at}
use Rattle.state.specs.States.{is_open}
use Rattle.session.specs.Runs.{call, Answered, Chip, Fresh, answered_by, outcome_of, after}
use Rattle.promises.specs.Reached.{SoundChip}
use Rattle.promises.specs.Records.{◌gives◌, asked, AsGiven, ten_records}

-- a number that something is; what calls from any fresh chip are answered; the header of instance 0 that they leave; what a
-- 46 of two types is answered in every sound state with an open session, whatever its third argument
infix 70 ◌is◌
pub data Case : Type 0 where
  ◌is◌ : ℕ → ℕ → Case
  run : List Answered → Case
  header_after : List Answered → ℕ → Case
  subtype_test : ℕ → ℕ → ℕ × ℕ × ℕ → Case

abbrev pub Holds : Case → Type 0
Holds (n is m) = n ≡ m
Holds (run rows) = AsGiven rows
Holds (header_after rows n) = (begun : Chip) → Fresh begun → header_at (after begun (asked (reverse rows))).working 0 ≡ n
Holds (subtype_test a b r) = (chip : Chip) → SoundChip chip → is_open chip.session.state ≡ true
    → (c : ℕ) → answered_by (call 46 a b c) (outcome_of chip (call 46 a b c)) ≡ (call 46 a b c gives r)

abbrev pub AllHold : List Case → Type 0
AllHold [] = Unit {0}
AllHold (one ∷ more) = Holds one × AllHold more

abbrev pub cases : List Case
cases =
    -- the ten records
    run ten_records
    -- the model word with name 7, repository 0 and schema 1; the instance after the seventh record
    ∷ label_of 0 1 7 is 1099511627783
    ∷ header_after (take 7 ten_records) 65539
    -- 46, in an open session
    ∷ subtype_test 3 0 (0, 1, 0)
    ∷ subtype_test 0 3 (0, 0, 0)
    ∷ subtype_test 9 9 (0, 1, 0)
    ∷ subtype_test 2 8 (25, 0, 2)
    ∷ subtype_test 10 0 (24, 0, 1)
    -- 14 and 2, on a fresh chip
    ∷ run (call 14 0 0 0 gives (2, 0, 0) ∷ [])
    ∷ run (call 2 0 0 0 gives (4, 0, 0) ∷ [])
    -- the set of all models, and the empty one
    ∷ size_of (2 ^ 64 - 1) is 64
    ∷ size_of none is 0
    ∷ []
