-- The state as two rows of numbers, its sets and its marks, and the state that such rows tell.
use Rattle.std.specs.Prelude.{ℕ, List, [], ◌∷◌, get_or}
use Rattle.state.specs.declared.state.State.{State}

abbrev pub sets_of : State → List ℕ
sets_of s = s.repositories ∷ s.ro ∷ s.rw ∷ []

abbrev pub marks_of : State → List ℕ
marks_of s = s.opened ∷ s.recording ∷ s.transaction ∷ []

unfoldable pub state_of : List ℕ → List ℕ → State
state_of sets marks = record {
  repositories = get_or sets 0 0;
  ro = get_or sets 1 0;
  rw = get_or sets 2 0;
  opened = get_or marks 0 0;
  recording = get_or marks 1 0;
  transaction = get_or marks 2 0;
}
