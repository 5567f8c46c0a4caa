-- Tables that agree are alike sound, and a copy is as sound as what was copied.
use Rattle.std.proofs.Common.{sym, ◌∙◌}
use Rattle.std.specs.Prelude.{List, ℕ}
use Rattle.words.specs.Copies.{copied}
use Rattle.words.specs.Laws.Copies.{Agreeing, copied_agrees}
use Rattle.tables.specs.Laws.Sound.{sound_alike}
use Rattle.promises.specs.Keeps.Facts.{SoundTable, table_test}

pub agree_sound : (a b : List ℕ) → Agreeing a b → SoundTable a → SoundTable b
agree_sound a b agree h = (table_test b).holds (sym (sound_alike a b agree) ∙ (table_test a).passes h)

pub turned : (a b : List ℕ) → Agreeing a b → Agreeing b a
turned a b h = record { left = h.right; right = h.left; alike = λ i l. sym (h.alike i l) }

module _ (from to : List ℕ) (hf : SoundTable from) (ht : SoundTable to) where
  pub copy_agrees : Agreeing from (copied from to)
  copy_agrees = copied_agrees from to hf.long ht.long

  pub copy_sound : SoundTable (copied from to)
  copy_sound = agree_sound from (copied from to) copy_agrees hf
