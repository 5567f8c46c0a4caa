-- A fresh chip is sound.
use Rattle.std.specs.Prelude.{◌≡◌, refl, Bool, true, false, cond, List, ℕ, ◌+◌, eqb, get_or}
use Rattle.std.proofs.Common.{sym, ap, ◌∙◌, le_refl}
use Rattle.std.proofs.lemmas.List.{get_or-replicate}
use Rattle.logic.specs.Laws.Bools.{clash}
use Rattle.words.specs.declared.layout.Kind.{Kind}
use Rattle.words.specs.declared.layout.Kind.TheVariants.{Model, SchemaInstance, Instance}
use Rattle.words.specs.Layout.{words, place_of, cursor_of}
use Rattle.words.specs.Entries.{word_of, cursor_in, in_entry, free_at, formed}
use Rattle.words.specs.Laws.Layout.{count_positive, cursor_in_use}
use Rattle.words.specs.Laws.Entries.{entry_in_use}
use Rattle.session.specs.Sound.{sound}
use Rattle.session.specs.Runs.{fresh_session, Empty, Fresh, fresh_table, fresh_chip}
use Rattle.promises.specs.Keeps.Facts.{Distinct, SoundTable}
use Rattle.promises.specs.Keeps.SessionFacts.{sound_test}
use Rattle.promises.specs.Keeps.Afterwards.{closed_sound}

module _ (t : List ℕ) (h : Empty t) where
  pub no_word : (kind : Kind) (i k : ℕ) → word_of t kind i k ≡ 0
  no_word kind i k = by_cases (in_entry kind i k) refl
    where
      by_cases : (b : Bool) → in_entry kind i k ≡ b → cond b (get_or t (place_of kind i + k) 0) 0 ≡ 0
      by_cases true e = h.zeros (place_of kind i + k) (entry_in_use kind i k e)
      by_cases false e = refl

  pub no_cursor : (kind : Kind) → cursor_in t kind ≡ 0
  no_cursor kind = h.zeros (cursor_of kind) (cursor_in_use kind)

  all_free : (kind : Kind) (i : ℕ) → free_at t kind i ≡ true
  all_free kind i = ap (λ (w : ℕ). eqb w 0) (no_word kind i 0)

  no_names : (kind : Kind) → Distinct t kind
  no_names kind i l j m e = e.left_live (all_free kind i)

  empty_sound : SoundTable t
  empty_sound = record {
    long = h.long;
    cursors = λ kind. rw (no_cursor kind) (count_positive kind);
    models = λ m l. ap (formed Model) (no_word Model m 0);
    model_names = no_names Model;
    groups = λ s l. record { empty = λ e. no_word SchemaInstance s 1; label = λ e. clash _ (all_free SchemaInstance s) e; members = λ e. clash _ (all_free SchemaInstance s) e };
    group_names = no_names SchemaInstance;
    instances = λ i l. record { empty = λ e k m. no_word Instance i (1 + k); headed = λ e. clash _ (all_free Instance i) e; valued = λ e. clash _ (all_free Instance i) e };
  }

pub fresh_sound : (w k : List ℕ) → Empty w → Empty k → sound fresh_session w k ≡ true
fresh_sound w k hw hk =
    (sound_test fresh_session w k).passes
    (record {
      tables = record {
        working = empty_sound w hw;
        kept = empty_sound k hk;
        agreeing = λ e. record { left = hw.long; right = hk.long; alike = λ i l. hw.zeros i l ∙ sym (hk.zeros i l) };
      };
      session = closed_sound w;
    })

fresh_table_lem : Empty fresh_table
unfolding fresh_table
fresh_table_lem = record { long = le_refl words; zeros = λ i l. get_or-replicate words i 0 0 l }

pub fresh_chip_lem : Fresh fresh_chip
fresh_chip_lem = record { session = refl; working = fresh_table_lem; kept = fresh_table_lem }
