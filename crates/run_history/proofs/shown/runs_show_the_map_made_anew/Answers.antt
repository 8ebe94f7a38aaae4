use Rattle.std.proofs.Common.{map, ap, ◌∙◌}
use Rattle.std.specs.Arc.{arc_value}
use Rattle.file_order.specs.Runs.{not_run}
use Rattle.query_merge.proofs.OverImages.{placed_each}
use Rattle.run_history.proofs.Told.{shown}
use Rattle.run_history.proofs.shown.runs_show_the_map_made_anew.Goals as goal

pub returns : goal.returns
returns c =
    shown (map arc_value c.args.written.now) (map arc_value c.args.images.now) c.texts_are_told_by_their_images.ensures
    (λ rules base changes history cut. ap not_run (placed_each arc_value c.args.images.now) ∙ c.cuts_of_a_history_answer_as_the_map_made_anew.ensures.follow rules base changes history cut)
    c.cuts_of_a_history_answer_as_the_map_made_anew.ensures.answer
