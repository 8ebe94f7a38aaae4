use Rattle.std.proofs.Common.{map, ap, sym, ◌∙◌}
use Rattle.std.specs.Arc.{arc_value}
use Rattle.file_order.specs.Runs.{not_run}
use Rattle.query_merge.proofs.OverImages.{placed_each}
use Rattle.fold_history.proofs.Following.{cut_follows}
use Rattle.fold_history.proofs.Standing.{cut_answers}
use Rattle.fold_history.proofs.cuts.cuts_of_a_history_answer_as_the_map_made_anew.Goals as goal

pub returns-clause-follow : goal.returns-clause-follow
returns-clause-follow c rules base changes h cut =
    sym (ap not_run (placed_each arc_value c.args.images.now))
    ∙ cut_follows (map arc_value c.args.written.now) (map arc_value c.args.images.now) (ap not_run (placed_each arc_value c.args.written.now) ∙ c.written_files_answer_as_the_map_made_anew.ensures.follow rules base changes h) cut

pub returns-clause-answer : goal.returns-clause-answer
returns-clause-answer c =
    cut_answers c.cuts_answer_alike.ensures.one c.cuts_answer_alike.ensures.fold c.cuts_answer_alike.ensures.cuts
    (map arc_value c.args.written.now) (map arc_value c.args.images.now) c.written_files_answer_as_the_map_made_anew.ensures.held
