use Rattle.std.proofs.Common.{◌∙◌, ap}
use Rattle.entity_store.specs.Changes.{after_changes}
use Rattle.obf_run.proofs.Changes.{change_good}
use Rattle.obf_run.proofs.changing.make_change.Goals as goal

pub returns-in-Ok-clause-good : goal.returns-in-Ok-clause-good
returns-in-Ok-clause-good g c =
    change_good c.in_ok-lines.lines.items c.deref.result.now c.args.store.now.entities c.commit.new.self.entities c.in_ok-lines.ensures.good c.deref.ensures.value
    (c.commit.ensures.entities ∙ ap (λ es. after_changes es c.in-Ok.staged) c.stage.ensures.entities ∙ c.in-Ok.ensures.staged) c.requires.good
