use Rattle.std.proofs.Common.{◌≡◌, take}
use Rattle.live_model.specs.CanonicalLines.{lines_text}
use Rattle.opl_writer.proofs.lines.write.Given as goal

-- those before the place are written
abbrev pub invariant-loop-entity : goal.invariant-loop-entity
invariant-loop-entity l = l.text.items ≡ lines_text (take l.entity-index l.entities)
