use Rattle.std.proofs.Common.{map, ap, ◌∙◌}
use Rattle.std.specs.Arc.{arc_value}
use Rattle.live_model.specs.Maps.{in_order}
use Rattle.file_order.specs.Runs.{not_run}
use Rattle.query_merge.proofs.OverImages.{asked, placed_each}
use Rattle.query_merge.proofs.RowsFound.{all_rows_are}
use Rattle.query_merge.proofs.asking.ask.Goals as goal

pub returns-clause-rows : goal.returns-clause-rows
returns-clause-rows g c =
    asked c.args.query.now (map arc_value c.args.images.now) c.in_ok-ordered.ordered.items c.in_ok-rows.rows.items c.are_images.ensures
    (ap not_run (placed_each arc_value c.args.images.now) ∙ c.requires) (c.in_ok-ordered.ensures ∙ ap in_order c.in_ok-gathered.ensures.found) (λ rules all. c.in_ok-rows.ensures ∙ all_rows_are rules c.args.query.now c.in_ok-ordered.ordered.items all)
