-- Sound tables are long and have sound labels, as the test of the session asks.
use Rattle.std.proofs.Common.{sym, ◌∙◌}
use Rattle.session.specs.Laws.Sound.{sound_long, sound_labels_lem}
use Rattle.session.specs.Sound.{sound}
use Rattle.session.proofs.call.is_sound.Goals as goal

pub sound_session-requires : goal.sound_session-requires
sound_session-requires c =
    let tables = sym (rw c.under.ensures at c.sound_tables.ensures) ∙ c.if-sound_tables.true in
    (sound_long _ _ _ tables, sound_labels_lem _ _ _ tables)

pub returns-then-sound_tables : goal.returns-then-sound_tables
unfolding sound
returns-then-sound_tables c = rw (sym (rw c.under.ensures at c.sound_tables.ensures) ∙ c.if-sound_tables.true) c.sound_session.ensures

pub returns-else-sound_tables : goal.returns-else-sound_tables
unfolding sound
returns-else-sound_tables c = rw (sym (rw c.under.ensures at c.sound_tables.ensures) ∙ c.if-sound_tables.false) c.if-sound_tables.false
