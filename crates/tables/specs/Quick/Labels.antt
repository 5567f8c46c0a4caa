-- Models and schema instances as the code asks for them: the labels of a kind in one pass, and then the sets.
use Rattle.std.specs.Prelude.{ℕ, Bool, true, false, Option, Some, None, ◌&&◌, ◌||◌, List, eqb, get_or}
use Rattle.words.specs.declared.layout.Kind.{Kind}
use Rattle.words.specs.declared.layout.Kind.TheVariants.{Model, Instance}
use Rattle.words.specs.Layout.{base_of, count_of}
use Rattle.logic.specs.Search.{all_b}
use Rattle.words.specs.Fields.{is_label, is_free}
use Rattle.words.specs.Copies.{same_at}
use Rattle.tables.specs.declared.live.Live.{Live}
use Rattle.tables.specs.View.{label_at}
use Rattle.tables.specs.Sound.{distinct, sound_entries}
use Rattle.tables.specs.Quick.Live.{live_in}

-- an entry is free or has a label
abbrev pub labelled : List ℕ → Kind → ℕ → Bool
labelled t kind i = is_free (label_at t kind i) || is_label (label_at t kind i)

abbrev pub sound_labels : List ℕ → Kind → Bool
sound_labels t kind = all_b (count_of kind) (labelled t kind) && distinct t kind

-- what a test answers: the live entries, if all is sound
abbrev pub tested : Bool → Live → Option Live
tested true live = Some live
tested false live = None

abbrev pub tested_labels : List ℕ → Kind → Option Live
tested_labels t kind = tested (sound_labels t kind) (live_in t kind)

abbrev pub tested_entries : List ℕ → Option Live
tested_entries t = tested (sound_entries t) (live_in t Model)

-- two tables are the same in the words before the first instance
abbrev pub same_entries : List ℕ → List ℕ → Bool
same_entries a b = all_b (base_of Instance) (same_at a b)

-- there is no model and no schema instance
abbrev pub is_blank : List ℕ → Bool
is_blank t = all_b (base_of Instance) (λ i. eqb (get_or t i 0) 0)
