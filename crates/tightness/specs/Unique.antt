-- Every contract leaves one answer: for each public function of the library, two outcomes that meet its contract for one
-- input are the same. `Post` is the contract as the checker reads it off the source, of the arguments a, a result and what
-- lent tables hold at exit.
use Rattle.std.specs.Prelude.{◌≡◌}
use Rattle.std.proofs.Common.{sym, ◌∙◌}
use Rattle.session.specs.Step.{outcome}
use Rattle.session.specs.Quick.Served.{serving, served, lending}
use Rattle.session.specs.Laws.Served.{given_one}
use Rattle.state.specs.Laws.Numbers.{place_number_one, numbers_one}
use Rattle.checks.specs.Laws.Checks.{asks_one}
use Rattle.dictionary.proofs.Laws.Numbers.{type_at_one}
use Rattle.words.proofs.layout.base.Reads as words-layout-base
use Rattle.words.proofs.layout.stride.Reads as words-layout-stride
use Rattle.words.proofs.layout.count.Reads as words-layout-count
use Rattle.words.proofs.layout.cursor.Reads as words-layout-cursor
use Rattle.words.proofs.layout.place.Reads as words-layout-place
use Rattle.words.proofs.fields.label.Reads as words-fields-label
use Rattle.words.proofs.fields.name_in.Reads as words-fields-name-in
use Rattle.words.proofs.fields.repository_in.Reads as words-fields-repository-in
use Rattle.words.proofs.fields.schema_in.Reads as words-fields-schema-in
use Rattle.words.proofs.fields.is_schema.Reads as words-fields-is-schema
use Rattle.words.proofs.fields.is_label.Reads as words-fields-is-label
use Rattle.words.proofs.fields.header.Reads as words-fields-header
use Rattle.words.proofs.fields.type_in.Reads as words-fields-type-in
use Rattle.words.proofs.fields.model_in.Reads as words-fields-model-in
use Rattle.words.proofs.fields.is_flagged.Reads as words-fields-is-flagged
use Rattle.words.proofs.fields.with_flag.Reads as words-fields-with-flag
use Rattle.words.proofs.fields.without_flag.Reads as words-fields-without-flag
use Rattle.words.proofs.fields.value_in.Reads as words-fields-value-in
use Rattle.words.proofs.fields.is_free.Reads as words-fields-is-free
use Rattle.words.proofs.fields.is_named.Reads as words-fields-is-named
use Rattle.words.proofs.sets.has.Reads as words-sets-has
use Rattle.words.proofs.sets.with.Reads as words-sets-with
use Rattle.words.proofs.sets.without.Reads as words-sets-without
use Rattle.words.proofs.sets.is_empty.Reads as words-sets-is-empty
use Rattle.words.proofs.sets.size.Reads as words-sets-size
use Rattle.words.proofs.entries.read.Reads as words-entries-read
use Rattle.words.proofs.entries.present.Reads as words-entries-present
use Rattle.words.proofs.entries.first_word.Reads as words-entries-first-word
use Rattle.words.proofs.entries.write.Reads as words-entries-write
use Rattle.words.proofs.entries.cursor_in.Reads as words-entries-cursor-in
use Rattle.words.proofs.entries.make.Reads as words-entries-make
use Rattle.words.proofs.entries.clear.Reads as words-entries-clear
use Rattle.words.proofs.search.next_free.Reads as words-search-next-free
use Rattle.words.proofs.search.is_taken.Reads as words-search-is-taken
use Rattle.words.proofs.copies.is_long.Reads as words-copies-is-long
use Rattle.words.proofs.copies.agree.Reads as words-copies-agree
use Rattle.words.proofs.copies.copy.Reads as words-copies-copy
use Rattle.dictionary.proofs.types.is_type.Reads as dictionary-types-is-type
use Rattle.dictionary.proofs.types.TypeTryFromU32.try_from.Reads as dictionary-types-type-try-from
use Rattle.dictionary.proofs.types.U32FromType.from.Reads as dictionary-types-u32-from
use Rattle.dictionary.proofs.types.name.Reads as dictionary-types-name
use Rattle.dictionary.proofs.types.schema.Reads as dictionary-types-schema
use Rattle.dictionary.proofs.kinds.attributes.Reads as dictionary-kinds-attributes
use Rattle.dictionary.proofs.kinds.attribute.Reads as dictionary-kinds-attribute
use Rattle.dictionary.proofs.pairs.subtype.Reads as dictionary-pairs-subtype
use Rattle.dictionary.proofs.parents.parent.Reads as dictionary-parents-parent
use Rattle.dictionary.proofs.parents.subtype.Reads as dictionary-parents-subtype
use Rattle.dictionary.proofs.shapes.shape.Reads as dictionary-shapes-shape
use Rattle.dictionary.proofs.shapes.attributes_in.Reads as dictionary-shapes-attributes-in
use Rattle.dictionary.proofs.shapes.mark_in.Reads as dictionary-shapes-mark-in
use Rattle.dictionary.proofs.tags.barred.Reads as dictionary-tags-barred
use Rattle.dictionary.proofs.tags.named.Reads as dictionary-tags-named
use Rattle.tables.proofs.changes.apply.Reads as tables-changes-apply
use Rattle.tables.proofs.deletions.remove.Reads as tables-deletions-remove
use Rattle.tables.proofs.deletions.held_back.Reads as tables-deletions-held-back
use Rattle.tables.proofs.view.share_set.Reads as tables-view-share-set
use Rattle.tables.proofs.sound.sound_table.Reads as tables-sound-sound-table
use Rattle.tables.proofs.sound.sound_tables.Reads as tables-sound-sound-tables
use Rattle.tables.proofs.view.is_live.Reads as tables-view-is-live
use Rattle.tables.proofs.view.label_at.Reads as tables-view-label-at
use Rattle.tables.proofs.view.set_at.Reads as tables-view-set-at
use Rattle.tables.proofs.view.header_at.Reads as tables-view-header-at
use Rattle.tables.proofs.view.is_set.Reads as tables-view-is-set
use Rattle.tables.proofs.view.value_at.Reads as tables-view-value-at
use Rattle.state.proofs.events.blank_log.Reads as state-events-blank-log
use Rattle.state.proofs.events.noted.Reads as state-events-noted
use Rattle.state.proofs.lent.sets_of.Reads as state-lent-sets-of
use Rattle.state.proofs.lent.marks_of.Reads as state-lent-marks-of
use Rattle.state.proofs.lent.state_of.Reads as state-lent-state-of
use Rattle.state.proofs.numbers.told.Reads as state-numbers-told
use Rattle.state.proofs.numbers.value_told.Reads as state-numbers-value-told
use Rattle.state.proofs.numbers.noted.Reads as state-numbers-noted
use Rattle.state.proofs.numbers.under.Reads as state-numbers-under
use Rattle.state.proofs.numbers.with_transaction.Reads as state-numbers-with-transaction
use Rattle.state.proofs.numbers.ended.Reads as state-numbers-ended
use Rattle.state.proofs.numbers.answer_of.Reads as state-numbers-answer-of
use Rattle.state.proofs.refusals.on.Reads as state-refusals-number-on
use Rattle.state.proofs.refusals.number_in.Reads as state-refusals-number-in
use Rattle.state.proofs.refusals.place_in.Reads as state-refusals-place-in
use Rattle.state.proofs.refusals.Refusal.on.Reads as state-refusals-on
use Rattle.state.proofs.refusals.U8FromRefusal.from.Reads as state-refusals-number
use Rattle.state.proofs.refusals.U8FromPlace.from.Reads as state-refusals-place-number
use Rattle.state.proofs.refusals.RefusalTryFromU16.try_from.Reads as state-refusals-refusal-try-from
use Rattle.state.proofs.state.U32FromTransaction.from.Reads as state-state-transaction-number
use Rattle.state.proofs.refusals.room_of.Reads as state-refusals-room-of
use Rattle.state.proofs.state.State.is_open.Reads as state-state-is-open
use Rattle.state.proofs.state.State.under.Reads as state-state-under
use Rattle.state.proofs.state.State.with_recording.Reads as state-state-with-recording
use Rattle.state.proofs.state.State.with_transaction.Reads as state-state-with-transaction
use Rattle.state.proofs.state.State.with_repositories.Reads as state-state-with-repositories
use Rattle.state.proofs.state.State.with_access.Reads as state-state-with-access
use Rattle.state.proofs.state.State.woken.Reads as state-state-woken
use Rattle.state.proofs.state.State.ended.Reads as state-state-ended
use Rattle.state.proofs.state.closed_state.Reads as state-state-closed-state
use Rattle.state.proofs.state.opened_state.Reads as state-state-opened-state
use Rattle.state.proofs.state.answer_of.Reads as state-state-answer-of
use Rattle.checks.proofs.operations.operation_of.Reads as checks-operations-operation-of
use Rattle.checks.proofs.conditions.no_repository.Reads as checks-conditions-no-repository
use Rattle.checks.proofs.conditions.not_opened.Reads as checks-conditions-not-opened
use Rattle.checks.proofs.conditions.away.Reads as checks-conditions-away
use Rattle.checks.proofs.conditions.missing.Reads as checks-conditions-missing
use Rattle.checks.proofs.conditions.no_writing.Reads as checks-conditions-no-writing
use Rattle.checks.proofs.conditions.no_access.Reads as checks-conditions-no-access
use Rattle.checks.proofs.conditions.lacks_attribute.Reads as checks-conditions-lacks-attribute
use Rattle.checks.proofs.conditions.schemas_differ.Reads as checks-conditions-schemas-differ
use Rattle.checks.proofs.conditions.type_foreign.Reads as checks-conditions-type-foreign
use Rattle.checks.proofs.conditions.no_type.Reads as checks-conditions-no-type
use Rattle.checks.proofs.conditions.types_differ.Reads as checks-conditions-types-differ
use Rattle.checks.proofs.conditions.wrong_type.Reads as checks-conditions-wrong-type
use Rattle.checks.proofs.conditions.apart.Reads as checks-conditions-apart
use Rattle.checks.proofs.shared.refuse_if.Reads as checks-shared-refuse-if
use Rattle.checks.proofs.shared.in_reach.Reads as checks-shared-in-reach
use Rattle.checks.proofs.shared.writable.Reads as checks-shared-writable
use Rattle.checks.proofs.shared.accessed.Reads as checks-shared-accessed
use Rattle.checks.proofs.shared.first.Reads as checks-shared-first
use Rattle.checks.proofs.numbers.in_reach.Reads as checks-numbers-in-reach
use Rattle.checks.proofs.numbers.writable.Reads as checks-numbers-writable
use Rattle.checks.proofs.gate.gate.Reads as checks-gate-gate
use Rattle.session.proofs.answers.unsound.Reads as session-answers-unsound
use Rattle.session.proofs.answers.log_stays.Reads as session-answers-log-stays
use Rattle.session.proofs.answers.carried.Reads as session-answers-carried
use Rattle.session.proofs.answers.finished.Reads as session-answers-finished
use Rattle.session.proofs.numbers.log_stays.Reads as session-numbers-log-stays
use Rattle.session.proofs.numbers.finished.Reads as session-numbers-finished
use Rattle.session.proofs.call.serve.Reads as session-call-serve
use Rattle.session.proofs.call.serve_lent.Reads as session-call-serve-lent
use Rattle.session.proofs.call.core.Reads as session-call-core
use Rattle.session.proofs.call.is_sound.Reads as session-call-is-sound
use Rattle.session.proofs.call.call.Reads as session-call-call
use Rattle.records.proofs.decoding.decode.Reads as records-decoding-decode
use Rattle.records.proofs.lines.line.Reads as records-lines-line
use Rattle.records.proofs.lines.bad.Reads as records-lines-bad
use Rattle.records.proofs.lines.end.Reads as records-lines-end
use Rattle.chip.proofs.chip_call.Reads as chip-chip-call
use Rattle.bench_core.proofs.chip_core.Reads as bench-core-chip-core

-- ---- words

pub words_layout_base_one : (κs : _) (a : _) (x y : _) (s s' : _) → words-layout-base.Post κs a x s → words-layout-base.Post κs a y s' → x ≡ y
words_layout_base_one κs a x y s s' p q = p ∙ sym q

pub words_layout_stride_one : (κs : _) (a : _) (x y : _) (s s' : _) → words-layout-stride.Post κs a x s → words-layout-stride.Post κs a y s' → x ≡ y
words_layout_stride_one κs a x y s s' p q = p ∙ sym q

pub words_layout_count_one : (κs : _) (a : _) (x y : _) (s s' : _) → words-layout-count.Post κs a x s → words-layout-count.Post κs a y s' → x ≡ y
words_layout_count_one κs a x y s s' p q = p ∙ sym q

pub words_layout_cursor_one : (κs : _) (a : _) (x y : _) (s s' : _) → words-layout-cursor.Post κs a x s → words-layout-cursor.Post κs a y s' → x ≡ y
words_layout_cursor_one κs a x y s s' p q = p ∙ sym q

pub words_layout_place_one : (κs : _) (a : _) (x y : _) (s s' : _) → words-layout-place.Post κs a x s → words-layout-place.Post κs a y s' → x ≡ y
words_layout_place_one κs a x y s s' p q = p ∙ sym q

pub words_fields_label_one : (κs : _) (a : _) (x y : _) (s s' : _) → words-fields-label.Post κs a x s → words-fields-label.Post κs a y s' → x ≡ y
words_fields_label_one κs a x y s s' p q = p ∙ sym q

pub words_fields_name_in_one : (κs : _) (a : _) (x y : _) (s s' : _) → words-fields-name-in.Post κs a x s → words-fields-name-in.Post κs a y s' → x ≡ y
words_fields_name_in_one κs a x y s s' p q = p ∙ sym q

pub words_fields_repository_in_one : (κs : _) (a : _) (x y : _) (s s' : _) → words-fields-repository-in.Post κs a x s → words-fields-repository-in.Post κs a y s' → x ≡ y
words_fields_repository_in_one κs a x y s s' p q = p ∙ sym q

pub words_fields_schema_in_one : (κs : _) (a : _) (x y : _) (s s' : _) → words-fields-schema-in.Post κs a x s → words-fields-schema-in.Post κs a y s' → x ≡ y
words_fields_schema_in_one κs a x y s s' p q = p ∙ sym q

pub words_fields_is_schema_one : (κs : _) (a : _) (x y : _) (s s' : _) → words-fields-is-schema.Post κs a x s → words-fields-is-schema.Post κs a y s' → x ≡ y
words_fields_is_schema_one κs a x y s s' p q = p ∙ sym q

pub words_fields_is_label_one : (κs : _) (a : _) (x y : _) (s s' : _) → words-fields-is-label.Post κs a x s → words-fields-is-label.Post κs a y s' → x ≡ y
words_fields_is_label_one κs a x y s s' p q = p ∙ sym q

pub words_fields_header_one : (κs : _) (a : _) (x y : _) (s s' : _) → words-fields-header.Post κs a x s → words-fields-header.Post κs a y s' → x ≡ y
words_fields_header_one κs a x y s s' p q = p ∙ sym q

pub words_fields_type_in_one : (κs : _) (a : _) (x y : _) (s s' : _) → words-fields-type-in.Post κs a x s → words-fields-type-in.Post κs a y s' → x ≡ y
words_fields_type_in_one κs a x y s s' p q = p ∙ sym q

pub words_fields_model_in_one : (κs : _) (a : _) (x y : _) (s s' : _) → words-fields-model-in.Post κs a x s → words-fields-model-in.Post κs a y s' → x ≡ y
words_fields_model_in_one κs a x y s s' p q = p ∙ sym q

pub words_fields_is_flagged_one : (κs : _) (a : _) (x y : _) (s s' : _) → words-fields-is-flagged.Post κs a x s → words-fields-is-flagged.Post κs a y s' → x ≡ y
words_fields_is_flagged_one κs a x y s s' p q = p ∙ sym q

pub words_fields_with_flag_one : (κs : _) (a : _) (x y : _) (s s' : _) → words-fields-with-flag.Post κs a x s → words-fields-with-flag.Post κs a y s' → x ≡ y
words_fields_with_flag_one κs a x y s s' p q = p ∙ sym q

pub words_fields_without_flag_one : (κs : _) (a : _) (x y : _) (s s' : _) → words-fields-without-flag.Post κs a x s → words-fields-without-flag.Post κs a y s' → x ≡ y
words_fields_without_flag_one κs a x y s s' p q = p ∙ sym q

pub words_fields_value_in_one : (κs : _) (a : _) (x y : _) (s s' : _) → words-fields-value-in.Post κs a x s → words-fields-value-in.Post κs a y s' → x ≡ y
words_fields_value_in_one κs a x y s s' p q = p ∙ sym q

pub words_fields_is_free_one : (κs : _) (a : _) (x y : _) (s s' : _) → words-fields-is-free.Post κs a x s → words-fields-is-free.Post κs a y s' → x ≡ y
words_fields_is_free_one κs a x y s s' p q = p ∙ sym q

pub words_fields_is_named_one : (κs : _) (a : _) (x y : _) (s s' : _) → words-fields-is-named.Post κs a x s → words-fields-is-named.Post κs a y s' → x ≡ y
words_fields_is_named_one κs a x y s s' p q = p ∙ sym q

pub words_sets_has_one : (κs : _) (a : _) (x y : _) (s s' : _) → words-sets-has.Post κs a x s → words-sets-has.Post κs a y s' → x ≡ y
words_sets_has_one κs a x y s s' p q = p ∙ sym q

pub words_sets_with_one : (κs : _) (a : _) (x y : _) (s s' : _) → words-sets-with.Post κs a x s → words-sets-with.Post κs a y s' → x ≡ y
words_sets_with_one κs a x y s s' p q = p ∙ sym q

pub words_sets_without_one : (κs : _) (a : _) (x y : _) (s s' : _) → words-sets-without.Post κs a x s → words-sets-without.Post κs a y s' → x ≡ y
words_sets_without_one κs a x y s s' p q = p ∙ sym q

pub words_sets_is_empty_one : (κs : _) (a : _) (x y : _) (s s' : _) → words-sets-is-empty.Post κs a x s → words-sets-is-empty.Post κs a y s' → x ≡ y
words_sets_is_empty_one κs a x y s s' p q = p ∙ sym q

pub words_sets_size_one : (κs : _) (a : _) (x y : _) (s s' : _) → words-sets-size.Post κs a x s → words-sets-size.Post κs a y s' → x ≡ y
words_sets_size_one κs a x y s s' p q = p ∙ sym q

pub words_entries_read_one : (κs : _) (a : _) (x y : _) (s s' : _) → words-entries-read.Post κs a x s → words-entries-read.Post κs a y s' → x ≡ y
words_entries_read_one κs a x y s s' p q = p ∙ sym q

pub words_entries_present_one : (κs : _) (a : _) (x y : _) (s s' : _) → words-entries-present.Post κs a x s → words-entries-present.Post κs a y s' → x ≡ y
words_entries_present_one κs a x y s s' p q = p.0 ∙ sym q.0

pub words_entries_first_word_one : (κs : _) (a : _) (x y : _) (s s' : _) → words-entries-first-word.Post κs a x s → words-entries-first-word.Post κs a y s' → x ≡ y
words_entries_first_word_one κs a x y s s' p q = p ∙ sym q

pub words_entries_write_one : (κs : _) (a : _) (x y : _) (s s' : _) → words-entries-write.Post κs a x s → words-entries-write.Post κs a y s' → s.0.now ≡ s'.0.now
words_entries_write_one κs a x y s s' p q = p ∙ sym q

pub words_entries_cursor_in_one : (κs : _) (a : _) (x y : _) (s s' : _) → words-entries-cursor-in.Post κs a x s → words-entries-cursor-in.Post κs a y s' → x ≡ y
words_entries_cursor_in_one κs a x y s s' p q = p ∙ sym q

pub words_entries_make_one : (κs : _) (a : _) (x y : _) (s s' : _) → words-entries-make.Post κs a x s → words-entries-make.Post κs a y s' → s.0.now ≡ s'.0.now
words_entries_make_one κs a x y s s' p q = p ∙ sym q

pub words_entries_clear_one : (κs : _) (a : _) (x y : _) (s s' : _) → words-entries-clear.Post κs a x s → words-entries-clear.Post κs a y s' → s.0.now ≡ s'.0.now
words_entries_clear_one κs a x y s s' p q = p ∙ sym q

pub words_search_next_free_one : (κs : _) (a : _) (x y : _) (s s' : _) → words-search-next-free.Post κs a x s → words-search-next-free.Post κs a y s' → x ≡ y
words_search_next_free_one κs a x y s s' p q = p ∙ sym q

pub words_search_is_taken_one : (κs : _) (a : _) (x y : _) (s s' : _) → words-search-is-taken.Post κs a x s → words-search-is-taken.Post κs a y s' → x ≡ y
words_search_is_taken_one κs a x y s s' p q = p ∙ sym q

pub words_copies_is_long_one : (κs : _) (a : _) (x y : _) (s s' : _) → words-copies-is-long.Post κs a x s → words-copies-is-long.Post κs a y s' → x ≡ y
words_copies_is_long_one κs a x y s s' p q = p ∙ sym q

pub words_copies_agree_one : (κs : _) (a : _) (x y : _) (s s' : _) → words-copies-agree.Post κs a x s → words-copies-agree.Post κs a y s' → x ≡ y
words_copies_agree_one κs a x y s s' p q = p ∙ sym q

pub words_copies_copy_one : (κs : _) (a : _) (x y : _) (s s' : _) → words-copies-copy.Post κs a x s → words-copies-copy.Post κs a y s' → s.1.0.now ≡ s'.1.0.now
words_copies_copy_one κs a x y s s' p q = p ∙ sym q

-- ---- dictionary

pub dictionary_types_type_try_from_one : (κs : _) (a : _) (x y : _) (s s' : _) → dictionary-types-type-try-from.Post κs a x s → dictionary-types-type-try-from.Post κs a y s' → x ≡ y
dictionary_types_type_try_from_one κs a x y s s' p q = type_at_one _ x y p q

pub dictionary_types_u32_from_one : (κs : _) (a : _) (x y : _) (s s' : _) → dictionary-types-u32-from.Post κs a x s → dictionary-types-u32-from.Post κs a y s' → x ≡ y
dictionary_types_u32_from_one κs a x y s s' p q = p ∙ sym q

pub dictionary_types_is_type_one : (κs : _) (a : _) (x y : _) (s s' : _) → dictionary-types-is-type.Post κs a x s → dictionary-types-is-type.Post κs a y s' → x ≡ y
dictionary_types_is_type_one κs a x y s s' p q = p ∙ sym q

pub dictionary_types_name_one : (κs : _) (a : _) (x y : _) (s s' : _) → dictionary-types-name.Post κs a x s → dictionary-types-name.Post κs a y s' → x ≡ y
dictionary_types_name_one κs a x y s s' p q = p ∙ sym q

pub dictionary_types_schema_one : (κs : _) (a : _) (x y : _) (s s' : _) → dictionary-types-schema.Post κs a x s → dictionary-types-schema.Post κs a y s' → x ≡ y
dictionary_types_schema_one κs a x y s s' p q = p ∙ sym q

pub dictionary_kinds_attributes_one : (κs : _) (a : _) (x y : _) (s s' : _) → dictionary-kinds-attributes.Post κs a x s → dictionary-kinds-attributes.Post κs a y s' → x ≡ y
dictionary_kinds_attributes_one κs a x y s s' p q = p ∙ sym q

pub dictionary_kinds_attribute_one : (κs : _) (a : _) (x y : _) (s s' : _) → dictionary-kinds-attribute.Post κs a x s → dictionary-kinds-attribute.Post κs a y s' → x ≡ y
dictionary_kinds_attribute_one κs a x y s s' p q = p ∙ sym q

pub dictionary_pairs_subtype_one : (κs : _) (a : _) (x y : _) (s s' : _) → dictionary-pairs-subtype.Post κs a x s → dictionary-pairs-subtype.Post κs a y s' → x ≡ y
dictionary_pairs_subtype_one κs a x y s s' p q = p ∙ sym q

pub dictionary_parents_parent_one : (κs : _) (a : _) (x y : _) (s s' : _) → dictionary-parents-parent.Post κs a x s → dictionary-parents-parent.Post κs a y s' → x ≡ y
dictionary_parents_parent_one κs a x y s s' p q = p ∙ sym q

pub dictionary_parents_subtype_one : (κs : _) (a : _) (x y : _) (s s' : _) → dictionary-parents-subtype.Post κs a x s → dictionary-parents-subtype.Post κs a y s' → x ≡ y
dictionary_parents_subtype_one κs a x y s s' p q = p ∙ sym q

pub dictionary_shapes_shape_one : (κs : _) (a : _) (x y : _) (s s' : _) → dictionary-shapes-shape.Post κs a x s → dictionary-shapes-shape.Post κs a y s' → x ≡ y
dictionary_shapes_shape_one κs a x y s s' p q = p ∙ sym q

pub dictionary_shapes_attributes_in_one : (κs : _) (a : _) (x y : _) (s s' : _) → dictionary-shapes-attributes-in.Post κs a x s → dictionary-shapes-attributes-in.Post κs a y s' → x ≡ y
dictionary_shapes_attributes_in_one κs a x y s s' p q = p ∙ sym q

pub dictionary_shapes_mark_in_one : (κs : _) (a : _) (x y : _) (s s' : _) → dictionary-shapes-mark-in.Post κs a x s → dictionary-shapes-mark-in.Post κs a y s' → x ≡ y
dictionary_shapes_mark_in_one κs a x y s s' p q = p ∙ sym q

pub dictionary_tags_barred_one : (κs : _) (a : _) (x y : _) (s s' : _) → dictionary-tags-barred.Post κs a x s → dictionary-tags-barred.Post κs a y s' → x ≡ y
dictionary_tags_barred_one κs a x y s s' p q = p ∙ sym q

pub dictionary_tags_named_one : (κs : _) (a : _) (x y : _) (s s' : _) → dictionary-tags-named.Post κs a x s → dictionary-tags-named.Post κs a y s' → x ≡ y
dictionary_tags_named_one κs a x y s s' p q = p ∙ sym q

-- ---- tables

pub tables_changes_apply_one : (κs : _) (a : _) (x y : _) (s s' : _) → tables-changes-apply.Post κs a x s → tables-changes-apply.Post κs a y s' → s.0.now ≡ s'.0.now
tables_changes_apply_one κs a x y s s' p q = p ∙ sym q

pub tables_deletions_remove_one : (κs : _) (a : _) (x y : _) (s s' : _) → tables-deletions-remove.Post κs a x s → tables-deletions-remove.Post κs a y s' → s.0.now ≡ s'.0.now
tables_deletions_remove_one κs a x y s s' p q = p ∙ sym q

pub tables_deletions_held_back_one : (κs : _) (a : _) (x y : _) (s s' : _) → tables-deletions-held-back.Post κs a x s → tables-deletions-held-back.Post κs a y s' → x ≡ y
tables_deletions_held_back_one κs a x y s s' p q = p ∙ sym q

pub tables_view_share_set_one : (κs : _) (a : _) (x y : _) (s s' : _) → tables-view-share-set.Post κs a x s → tables-view-share-set.Post κs a y s' → x ≡ y
tables_view_share_set_one κs a x y s s' p q = p ∙ sym q

pub tables_sound_sound_table_one : (κs : _) (a : _) (x y : _) (s s' : _) → tables-sound-sound-table.Post κs a x s → tables-sound-sound-table.Post κs a y s' → x ≡ y
tables_sound_sound_table_one κs a x y s s' p q = p ∙ sym q

pub tables_sound_sound_tables_one : (κs : _) (a : _) (x y : _) (s s' : _) → tables-sound-sound-tables.Post κs a x s → tables-sound-sound-tables.Post κs a y s' → x ≡ y
tables_sound_sound_tables_one κs a x y s s' p q = p ∙ sym q

pub tables_view_is_live_one : (κs : _) (a : _) (x y : _) (s s' : _) → tables-view-is-live.Post κs a x s → tables-view-is-live.Post κs a y s' → x ≡ y
tables_view_is_live_one κs a x y s s' p q = p ∙ sym q

pub tables_view_label_at_one : (κs : _) (a : _) (x y : _) (s s' : _) → tables-view-label-at.Post κs a x s → tables-view-label-at.Post κs a y s' → x ≡ y
tables_view_label_at_one κs a x y s s' p q = p ∙ sym q

pub tables_view_set_at_one : (κs : _) (a : _) (x y : _) (s s' : _) → tables-view-set-at.Post κs a x s → tables-view-set-at.Post κs a y s' → x ≡ y
tables_view_set_at_one κs a x y s s' p q = p ∙ sym q

pub tables_view_header_at_one : (κs : _) (a : _) (x y : _) (s s' : _) → tables-view-header-at.Post κs a x s → tables-view-header-at.Post κs a y s' → x ≡ y
tables_view_header_at_one κs a x y s s' p q = p ∙ sym q

pub tables_view_is_set_one : (κs : _) (a : _) (x y : _) (s s' : _) → tables-view-is-set.Post κs a x s → tables-view-is-set.Post κs a y s' → x ≡ y
tables_view_is_set_one κs a x y s s' p q = p ∙ sym q

pub tables_view_value_at_one : (κs : _) (a : _) (x y : _) (s s' : _) → tables-view-value-at.Post κs a x s → tables-view-value-at.Post κs a y s' → x ≡ y
tables_view_value_at_one κs a x y s s' p q = p ∙ sym q

-- ---- state

pub state_events_blank_log_one : (κs : _) (a : _) (x y : _) (s s' : _) → state-events-blank-log.Post κs a x s → state-events-blank-log.Post κs a y s' → x ≡ y
state_events_blank_log_one κs a x y s s' p q = p ∙ sym q

pub state_events_noted_one : (κs : _) (a : _) (x y : _) (s s' : _) → state-events-noted.Post κs a x s → state-events-noted.Post κs a y s' → x ≡ y
state_events_noted_one κs a x y s s' p q = p ∙ sym q

pub state_lent_sets_of_one : (κs : _) (a : _) (x y : _) (s s' : _) → state-lent-sets-of.Post κs a x s → state-lent-sets-of.Post κs a y s' → x ≡ y
state_lent_sets_of_one κs a x y s s' p q = p ∙ sym q

pub state_lent_marks_of_one : (κs : _) (a : _) (x y : _) (s s' : _) → state-lent-marks-of.Post κs a x s → state-lent-marks-of.Post κs a y s' → x ≡ y
state_lent_marks_of_one κs a x y s s' p q = p ∙ sym q

pub state_lent_state_of_one : (κs : _) (a : _) (x y : _) (s s' : _) → state-lent-state-of.Post κs a x s → state-lent-state-of.Post κs a y s' → x ≡ y
state_lent_state_of_one κs a x y s s' p q = p ∙ sym q

pub state_refusals_on_one : (κs : _) (a : _) (x y : _) (s s' : _) → state-refusals-on.Post κs a x s → state-refusals-on.Post κs a y s' → x ≡ y
state_refusals_on_one κs a x y s s' p q = p ∙ sym q

pub state_refusals_number_on_one : (κs : _) (a : _) (x y : _) (s s' : _) → state-refusals-number-on.Post κs a x s → state-refusals-number-on.Post κs a y s' → x ≡ y
state_refusals_number_on_one κs a x y s s' p q = p ∙ sym q

pub state_refusals_number_in_one : (κs : _) (a : _) (x y : _) (s s' : _) → state-refusals-number-in.Post κs a x s → state-refusals-number-in.Post κs a y s' → x ≡ y
state_refusals_number_in_one κs a x y s s' p q = p ∙ sym q

pub state_refusals_place_in_one : (κs : _) (a : _) (x y : _) (s s' : _) → state-refusals-place-in.Post κs a x s → state-refusals-place-in.Post κs a y s' → x ≡ y
state_refusals_place_in_one κs a x y s s' p q = p ∙ sym q

pub state_refusals_number_one : (κs : _) (a : _) (x y : _) (s s' : _) → state-refusals-number.Post κs a x s → state-refusals-number.Post κs a y s' → x ≡ y
state_refusals_number_one κs a x y s s' p q = p ∙ sym q

pub state_refusals_place_number_one : (κs : _) (a : _) (x y : _) (s s' : _) → state-refusals-place-number.Post κs a x s → state-refusals-place-number.Post κs a y s' → x ≡ y
state_refusals_place_number_one κs a x y s s' p q = p ∙ sym q

pub state_refusals_refusal_try_from_one : (κs : _) (a : _) (x y : _) (s s' : _) → state-refusals-refusal-try-from.Post κs a x s → state-refusals-refusal-try-from.Post κs a y s' → x ≡ y
state_refusals_refusal_try_from_one κs a x y s s' p q = numbers_one _ x y p q

pub state_state_transaction_number_one : (κs : _) (a : _) (x y : _) (s s' : _) → state-state-transaction-number.Post κs a x s → state-state-transaction-number.Post κs a y s' → x ≡ y
state_state_transaction_number_one κs a x y s s' p q = p ∙ sym q

pub state_refusals_room_of_one : (κs : _) (a : _) (x y : _) (s s' : _) → state-refusals-room-of.Post κs a x s → state-refusals-room-of.Post κs a y s' → x ≡ y
state_refusals_room_of_one κs a x y s s' p q = place_number_one x y (p ∙ sym q)

pub state_state_is_open_one : (κs : _) (a : _) (x y : _) (s s' : _) → state-state-is-open.Post κs a x s → state-state-is-open.Post κs a y s' → x ≡ y
state_state_is_open_one κs a x y s s' p q = p ∙ sym q

pub state_state_under_one : (κs : _) (a : _) (x y : _) (s s' : _) → state-state-under.Post κs a x s → state-state-under.Post κs a y s' → x ≡ y
state_state_under_one κs a x y s s' p q = p ∙ sym q

pub state_state_with_recording_one : (κs : _) (a : _) (x y : _) (s s' : _) → state-state-with-recording.Post κs a x s → state-state-with-recording.Post κs a y s' → x ≡ y
state_state_with_recording_one κs a x y s s' p q = p ∙ sym q

pub state_state_with_transaction_one : (κs : _) (a : _) (x y : _) (s s' : _) → state-state-with-transaction.Post κs a x s → state-state-with-transaction.Post κs a y s' → x ≡ y
state_state_with_transaction_one κs a x y s s' p q = p ∙ sym q

pub state_state_with_repositories_one : (κs : _) (a : _) (x y : _) (s s' : _) → state-state-with-repositories.Post κs a x s → state-state-with-repositories.Post κs a y s' → x ≡ y
state_state_with_repositories_one κs a x y s s' p q = p ∙ sym q

pub state_state_with_access_one : (κs : _) (a : _) (x y : _) (s s' : _) → state-state-with-access.Post κs a x s → state-state-with-access.Post κs a y s' → x ≡ y
state_state_with_access_one κs a x y s s' p q = p ∙ sym q

pub state_state_woken_one : (κs : _) (a : _) (x y : _) (s s' : _) → state-state-woken.Post κs a x s → state-state-woken.Post κs a y s' → x ≡ y
state_state_woken_one κs a x y s s' p q = p ∙ sym q

pub state_state_ended_one : (κs : _) (a : _) (x y : _) (s s' : _) → state-state-ended.Post κs a x s → state-state-ended.Post κs a y s' → x ≡ y
state_state_ended_one κs a x y s s' p q = p ∙ sym q

pub state_state_closed_state_one : (κs : _) (a : _) (x y : _) (s s' : _) → state-state-closed-state.Post κs a x s → state-state-closed-state.Post κs a y s' → x ≡ y
state_state_closed_state_one κs a x y s s' p q = p ∙ sym q

pub state_state_opened_state_one : (κs : _) (a : _) (x y : _) (s s' : _) → state-state-opened-state.Post κs a x s → state-state-opened-state.Post κs a y s' → x ≡ y
state_state_opened_state_one κs a x y s s' p q = p ∙ sym q

pub state_state_answer_of_one : (κs : _) (a : _) (x y : _) (s s' : _) → state-state-answer-of.Post κs a x s → state-state-answer-of.Post κs a y s' → x ≡ y
state_state_answer_of_one κs a x y s s' p q = p ∙ sym q

pub state_numbers_told_one : (κs : _) (a : _) (x y : _) (s s' : _) → state-numbers-told.Post κs a x s → state-numbers-told.Post κs a y s' → x ≡ y
state_numbers_told_one κs a x y s s' p q = p ∙ sym q

pub state_numbers_value_told_one : (κs : _) (a : _) (x y : _) (s s' : _) → state-numbers-value-told.Post κs a x s → state-numbers-value-told.Post κs a y s' → x ≡ y
state_numbers_value_told_one κs a x y s s' p q = p ∙ sym q

pub state_numbers_noted_one : (κs : _) (a : _) (x y : _) (s s' : _) → state-numbers-noted.Post κs a x s → state-numbers-noted.Post κs a y s' → x ≡ y
state_numbers_noted_one κs a x y s s' p q = p ∙ sym q

pub state_numbers_under_one : (κs : _) (a : _) (x y : _) (s s' : _) → state-numbers-under.Post κs a x s → state-numbers-under.Post κs a y s' → x ≡ y
state_numbers_under_one κs a x y s s' p q = p ∙ sym q

pub state_numbers_with_transaction_one : (κs : _) (a : _) (x y : _) (s s' : _) → state-numbers-with-transaction.Post κs a x s → state-numbers-with-transaction.Post κs a y s' → x ≡ y
state_numbers_with_transaction_one κs a x y s s' p q = p ∙ sym q

pub state_numbers_ended_one : (κs : _) (a : _) (x y : _) (s s' : _) → state-numbers-ended.Post κs a x s → state-numbers-ended.Post κs a y s' → x ≡ y
state_numbers_ended_one κs a x y s s' p q = p ∙ sym q

pub state_numbers_answer_of_one : (κs : _) (a : _) (x y : _) (s s' : _) → state-numbers-answer-of.Post κs a x s → state-numbers-answer-of.Post κs a y s' → x ≡ y
state_numbers_answer_of_one κs a x y s s' p q = p ∙ sym q

-- ---- checks

pub checks_operations_operation_of_one : (κs : _) (a : _) (x y : _) (s s' : _) → checks-operations-operation-of.Post κs a x s → checks-operations-operation-of.Post κs a y s' → x ≡ y
checks_operations_operation_of_one κs a x y s s' p q = p ∙ sym q

pub checks_conditions_no_repository_one : (κs : _) (a : _) (x y : _) (s s' : _) → checks-conditions-no-repository.Post κs a x s → checks-conditions-no-repository.Post κs a y s' → x ≡ y
checks_conditions_no_repository_one κs a x y s s' p q = p ∙ sym q

pub checks_conditions_not_opened_one : (κs : _) (a : _) (x y : _) (s s' : _) → checks-conditions-not-opened.Post κs a x s → checks-conditions-not-opened.Post κs a y s' → x ≡ y
checks_conditions_not_opened_one κs a x y s s' p q = p ∙ sym q

pub checks_conditions_away_one : (κs : _) (a : _) (x y : _) (s s' : _) → checks-conditions-away.Post κs a x s → checks-conditions-away.Post κs a y s' → x ≡ y
checks_conditions_away_one κs a x y s s' p q = p ∙ sym q

pub checks_conditions_missing_one : (κs : _) (a : _) (x y : _) (s s' : _) → checks-conditions-missing.Post κs a x s → checks-conditions-missing.Post κs a y s' → x ≡ y
checks_conditions_missing_one κs a x y s s' p q = p ∙ sym q

pub checks_conditions_no_writing_one : (κs : _) (a : _) (x y : _) (s s' : _) → checks-conditions-no-writing.Post κs a x s → checks-conditions-no-writing.Post κs a y s' → x ≡ y
checks_conditions_no_writing_one κs a x y s s' p q = p ∙ sym q

pub checks_conditions_no_access_one : (κs : _) (a : _) (x y : _) (s s' : _) → checks-conditions-no-access.Post κs a x s → checks-conditions-no-access.Post κs a y s' → x ≡ y
checks_conditions_no_access_one κs a x y s s' p q = p ∙ sym q

pub checks_conditions_lacks_attribute_one : (κs : _) (a : _) (x y : _) (s s' : _) → checks-conditions-lacks-attribute.Post κs a x s → checks-conditions-lacks-attribute.Post κs a y s' → x ≡ y
checks_conditions_lacks_attribute_one κs a x y s s' p q = p ∙ sym q

pub checks_conditions_schemas_differ_one : (κs : _) (a : _) (x y : _) (s s' : _) → checks-conditions-schemas-differ.Post κs a x s → checks-conditions-schemas-differ.Post κs a y s' → x ≡ y
checks_conditions_schemas_differ_one κs a x y s s' p q = p ∙ sym q

pub checks_conditions_type_foreign_one : (κs : _) (a : _) (x y : _) (s s' : _) → checks-conditions-type-foreign.Post κs a x s → checks-conditions-type-foreign.Post κs a y s' → x ≡ y
checks_conditions_type_foreign_one κs a x y s s' p q = p ∙ sym q

pub checks_conditions_no_type_one : (κs : _) (a : _) (x y : _) (s s' : _) → checks-conditions-no-type.Post κs a x s → checks-conditions-no-type.Post κs a y s' → x ≡ y
checks_conditions_no_type_one κs a x y s s' p q = p ∙ sym q

pub checks_conditions_types_differ_one : (κs : _) (a : _) (x y : _) (s s' : _) → checks-conditions-types-differ.Post κs a x s → checks-conditions-types-differ.Post κs a y s' → x ≡ y
checks_conditions_types_differ_one κs a x y s s' p q = p ∙ sym q

pub checks_conditions_wrong_type_one : (κs : _) (a : _) (x y : _) (s s' : _) → checks-conditions-wrong-type.Post κs a x s → checks-conditions-wrong-type.Post κs a y s' → x ≡ y
checks_conditions_wrong_type_one κs a x y s s' p q = p ∙ sym q

pub checks_conditions_apart_one : (κs : _) (a : _) (x y : _) (s s' : _) → checks-conditions-apart.Post κs a x s → checks-conditions-apart.Post κs a y s' → x ≡ y
checks_conditions_apart_one κs a x y s s' p q = p ∙ sym q

pub checks_shared_refuse_if_one : (κs : _) (a : _) (x y : _) (s s' : _) → checks-shared-refuse-if.Post κs a x s → checks-shared-refuse-if.Post κs a y s' → x ≡ y
checks_shared_refuse_if_one κs a x y s s' p q = asks_one _ x y p q

pub checks_shared_in_reach_one : (κs : _) (a : _) (x y : _) (s s' : _) → checks-shared-in-reach.Post κs a x s → checks-shared-in-reach.Post κs a y s' → x ≡ y
checks_shared_in_reach_one κs a x y s s' p q = asks_one _ x y p q

pub checks_shared_writable_one : (κs : _) (a : _) (x y : _) (s s' : _) → checks-shared-writable.Post κs a x s → checks-shared-writable.Post κs a y s' → x ≡ y
checks_shared_writable_one κs a x y s s' p q = asks_one _ x y p q

pub checks_shared_accessed_one : (κs : _) (a : _) (x y : _) (s s' : _) → checks-shared-accessed.Post κs a x s → checks-shared-accessed.Post κs a y s' → x ≡ y
checks_shared_accessed_one κs a x y s s' p q = asks_one _ x y p q

pub checks_shared_first_one : (κs : _) (a : _) (x y : _) (s s' : _) → checks-shared-first.Post κs a x s → checks-shared-first.Post κs a y s' → x ≡ y
checks_shared_first_one κs a x y s s' p q = p ∙ sym q

pub checks_numbers_in_reach_one : (κs : _) (a : _) (x y : _) (s s' : _) → checks-numbers-in-reach.Post κs a x s → checks-numbers-in-reach.Post κs a y s' → x ≡ y
checks_numbers_in_reach_one κs a x y s s' p q = p ∙ sym q

pub checks_numbers_writable_one : (κs : _) (a : _) (x y : _) (s s' : _) → checks-numbers-writable.Post κs a x s → checks-numbers-writable.Post κs a y s' → x ≡ y
checks_numbers_writable_one κs a x y s s' p q = p ∙ sym q

pub checks_gate_gate_one : (κs : _) (a : _) (x y : _) (s s' : _) → checks-gate-gate.Post κs a x s → checks-gate-gate.Post κs a y s' → x ≡ y
checks_gate_gate_one κs a x y s s' p q = asks_one _ x y p q

-- ---- session

pub session_answers_unsound_one : (κs : _) (a : _) (x y : _) (s s' : _) → session-answers-unsound.Post κs a x s → session-answers-unsound.Post κs a y s' → x ≡ y
session_answers_unsound_one κs a x y s s' p q = p ∙ sym q

pub session_answers_log_stays_one : (κs : _) (a : _) (x y : _) (s s' : _) → session-answers-log-stays.Post κs a x s → session-answers-log-stays.Post κs a y s' → x ≡ y
session_answers_log_stays_one κs a x y s s' p q = p ∙ sym q

pub session_answers_carried_one : (κs : _) (a : _) (x y : _) (s s' : _) → session-answers-carried.Post κs a x s → session-answers-carried.Post κs a y s' → x ≡ y
session_answers_carried_one κs a x y s s' p q = p ∙ sym q

pub session_answers_finished_one : (κs : _) (a : _) (x y : _) (s s' : _) → session-answers-finished.Post κs a x s → session-answers-finished.Post κs a y s' → x ≡ y
session_answers_finished_one κs a x y s s' p q = p ∙ sym q

pub session_numbers_log_stays_one : (κs : _) (a : _) (x y : _) (s s' : _) → session-numbers-log-stays.Post κs a x s → session-numbers-log-stays.Post κs a y s' → x ≡ y
session_numbers_log_stays_one κs a x y s s' p q = p ∙ sym q

pub session_numbers_finished_one : (κs : _) (a : _) (x y : _) (s s' : _) → session-numbers-finished.Post κs a x s → session-numbers-finished.Post κs a y s' → x ≡ y
session_numbers_finished_one κs a x y s s' p q = p ∙ sym q

pub session_call_serve_one : (κs : _) (a : _) (x y : _) (s s' : _) → session-call-serve.Post κs a x s → session-call-serve.Post κs a y s'
    → (x ≡ y)
    × (serving (served x s.1.0.now) s.1.1.0.now s.1.1.1.0.now ≡ serving (served y s'.1.0.now) s'.1.1.0.now s'.1.1.1.0.now)
session_call_serve_one κs a x y s s' p q = (given_one x y _ _ _ _ _ _ (p ∙ sym q), p ∙ sym q)

pub session_call_serve_lent_one : (κs : _) (a : _) (x y : _) (s s' : _) → session-call-serve-lent.Post κs a x s → session-call-serve-lent.Post κs a y s'
    → lending x s.1.1.1.1.1.1.0.now s.1.1.1.1.1.1.1.0.now s.1.1.1.1.0.now s.1.1.1.1.1.0.now
    ≡ lending y s'.1.1.1.1.1.1.0.now s'.1.1.1.1.1.1.1.0.now s'.1.1.1.1.0.now s'.1.1.1.1.1.0.now
session_call_serve_lent_one κs a x y s s' p q = p ∙ sym q

pub session_call_core_one : (κs : _) (a : _) (x y : _) (s s' : _) → session-call-core.Post κs a x s → session-call-core.Post κs a y s'
    → outcome x s.1.1.1.1.1.0.now s.1.1.1.1.1.1.0.now ≡ outcome y s'.1.1.1.1.1.0.now s'.1.1.1.1.1.1.0.now
session_call_core_one κs a x y s s' p q = p ∙ sym q

pub session_call_is_sound_one : (κs : _) (a : _) (x y : _) (s s' : _) → session-call-is-sound.Post κs a x s → session-call-is-sound.Post κs a y s' → x ≡ y
session_call_is_sound_one κs a x y s s' p q = p ∙ sym q

pub session_call_call_one : (κs : _) (a : _) (x y : _) (s s' : _) → session-call-call.Post κs a x s → session-call-call.Post κs a y s'
    → outcome x s.1.1.1.1.1.0.now s.1.1.1.1.1.1.0.now ≡ outcome y s'.1.1.1.1.1.0.now s'.1.1.1.1.1.1.0.now
session_call_call_one κs a x y s s' p q = p ∙ sym q

-- ---- records

pub records_decoding_decode_one : (κs : _) (a : _) (x y : _) (s s' : _) → records-decoding-decode.Post κs a x s → records-decoding-decode.Post κs a y s' → x ≡ y
records_decoding_decode_one κs a x y s s' p q = p ∙ sym q

pub records_lines_line_one : (κs : _) (a : _) (x y : _) (s s' : _) → records-lines-line.Post κs a x s → records-lines-line.Post κs a y s' → (x ≡ y) × (s.0.now ≡ s'.0.now)
records_lines_line_one κs a x y s s' p q = (p.1 ∙ sym q.1, p.0 ∙ sym q.0)

pub records_lines_bad_one : (κs : _) (a : _) (x y : _) (s s' : _) → records-lines-bad.Post κs a x s → records-lines-bad.Post κs a y s' → (x ≡ y) × (s.0.now ≡ s'.0.now)
records_lines_bad_one κs a x y s s' p q = (p.1 ∙ sym q.1, p.0 ∙ sym q.0)

pub records_lines_end_one : (κs : _) (a : _) (x y : _) (s s' : _) → records-lines-end.Post κs a x s → records-lines-end.Post κs a y s' → (x ≡ y) × (s.0.now ≡ s'.0.now)
records_lines_end_one κs a x y s s' p q = (p.1 ∙ sym q.1, p.0 ∙ sym q.0)

-- ---- the faces for C: chip, whose `chip_tray` is in Trays.antt, and, for the bench, bench_core

pub chip_chip_call_one : (κs : _) (a : _) (x y : _) (s s' : _) → chip-chip-call.Post κs a x s → chip-chip-call.Post κs a y s'
    → outcome x s.1.1.1.1.1.0.now s.1.1.1.1.1.1.0.now ≡ outcome y s'.1.1.1.1.1.0.now s'.1.1.1.1.1.1.0.now
chip_chip_call_one κs a x y s s' p q = p ∙ sym q

pub bench_core_chip_core_one : (κs : _) (a : _) (x y : _) (s s' : _) → bench-core-chip-core.Post κs a x s → bench-core-chip-core.Post κs a y s'
    → outcome x s.1.1.1.1.1.0.now s.1.1.1.1.1.1.0.now ≡ outcome y s'.1.1.1.1.1.0.now s'.1.1.1.1.1.1.0.now
bench_core_chip_core_one κs a x y s s' p q = p ∙ sym q
