use Rattle.std.proofs.Common.{◌≡◌, ◌++◌}
use Rattle.live_model.specs.CanonicalLines.{lines_text, nodes_in}
use Rattle.obf_run.proofs.jobs.nodes_text.Given as goal

-- the text so far, and that of the entities that are left
abbrev pub invariant-loop-entity : goal.invariant-loop-entity
invariant-loop-entity l = l.text.items ++ lines_text (nodes_in l.rect l.entity-iterator) ≡ lines_text (nodes_in l.rect l.store.entities)
