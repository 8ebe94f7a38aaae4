use Rattle.std.proofs.Common.{map, ap, sym, ◌∙◌}
use Rattle.std.specs.Arc.{arc_value}
use Rattle.file_order.specs.Runs.{not_run}
use Rattle.query_merge.proofs.OverImages.{placed_each}
use Rattle.map_history.proofs.ReadBack.{follow_for, held, they_answer}
use Rattle.map_history.proofs.written.written_files_answer_as_the_map_made_anew.Goals as goal

pub returns-clause-held : goal.returns-clause-held
returns-clause-held c rules base changes h = held rules base changes (map arc_value c.args.images.now) c.are_read.ensures h

pub returns-clause-follow : goal.returns-clause-follow
returns-clause-follow c rules base changes h = sym (ap not_run (placed_each arc_value c.args.images.now)) ∙ follow_for rules base changes (map arc_value c.args.images.now) c.are_read.ensures h

pub returns-clause-answer : goal.returns-clause-answer
returns-clause-answer c = they_answer (map arc_value c.args.images.now) c.are_read.ensures
