use Rattle.query_merge.proofs.HitSteps.{searched}
use Rattle.query_merge.proofs.hits.next_address.Goals as goal

pub returns-in-Some-clause-steps : goal.returns-in-Some-clause-steps
returns-in-Some-clause-steps g c = searched c.args.hits.now.here c.args.hits.now.blocks c.next.new.self.blocks c.args.steps.now c.next.new.steps c.next.ensures.blocks c.next.ensures.steps

pub returns-in-None-clause-steps : goal.returns-in-None-clause-steps
returns-in-None-clause-steps g c = searched c.args.hits.now.here c.args.hits.now.blocks c.next.new.self.blocks c.args.steps.now c.next.new.steps c.next.ensures.blocks c.next.ensures.steps
