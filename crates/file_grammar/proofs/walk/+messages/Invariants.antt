use Rattle.std.proofs.Common.{◌≡◌, ◌≤◌, ◌+◌, ◌-◌, ◌*◌}
use Rattle.obf_wire.specs.Fields.{IsWindow}
use Rattle.obf_wire.specs.Windows.{range_of}
use Rattle.file_grammar.specs.Readings.{break_in, message_at, message_from}
use Rattle.file_grammar.proofs.walk.+messages.Given as goal

abbrev pub decreases-form : goal.decreases-form
decreases-form l = 2 * (l.window.to - l.window.from) + 1

abbrev pub decreases-inside : goal.decreases-inside
decreases-inside l = 2 * (l.field.now.to - l.field.now.from) + 2

abbrev pub invariant-form-loop-field : goal.invariant-form-loop-field
invariant-form-loop-field l =
    IsWindow l.cursor × (l.cursor.bytes ≡ l.window.bytes.now) × (l.cursor.end ≡ l.window.to) × (l.window.from ≤ l.cursor.place)
    × (break_in (message_from l.part l.last l.cursor) ≡ break_in (message_at l.part (range_of l.window)))

abbrev pub decreases-form-loop-field : goal.decreases-form-loop-field
decreases-form-loop-field l = l.cursor.end - l.cursor.place
