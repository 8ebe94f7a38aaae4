use Rattle.std.proofs.Common.{[], sym, subst, ◌∙◌, ap}
use Rattle.live_model.specs.Stores.{IsStore, apply}
use Rattle.entity_store.specs.Changes.{after_changes}
use Rattle.entity_store.proofs.Tagging.{store_applied}
use Rattle.entity_store.proofs.store.Store.from_lines.Goals as goal

pub returns-clause-store : goal.returns-clause-store
returns-clause-store c =
    c.commit.ensures.entities ∙ ap (λ es. after_changes es c.in_ok-staged.staged) c.in_ok-staged.ensures.entities ∙ c.in_ok-staged.ensures.staged ∙ ap (λ es. apply es c.args.lines.items) c.empty-store.ensures

pub returns-clause-good : goal.returns-clause-good
returns-clause-good c = λ good. subst IsStore (sym (returns-clause-store c)) (store_applied [] c.args.lines.items (record { good = tt; rising = tt }) good)
