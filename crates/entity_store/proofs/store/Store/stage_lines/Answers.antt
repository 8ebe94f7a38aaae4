use Rattle.entity_store.proofs.store.Store.stage_lines.Goals as goal

pub returns-clause-staged : goal.returns-clause-staged
returns-clause-staged c = c.in_ok-staged.ensures c.args.self.now.entities c.depth-depth.ensures.rising
