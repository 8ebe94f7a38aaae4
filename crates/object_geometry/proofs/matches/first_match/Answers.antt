use Rattle.object_geometry.proofs.NextRule.{first_of_rest, first_of_none, first_within}
use Rattle.object_geometry.proofs.matches.first_match.Goals as goal

pub loop-rest-preserved : goal.loop-rest-preserved
loop-rest-preserved c =
    first_of_rest c.args.rules.now c.args.tags.now c.args.from c.loop-rest.rest.now _ c.loop-rest.first c.matching.result c.lesser-first.result _ c.in-len1-up.len_at_least c.matching.ensures c.lesser-first.ensures c.loop-rest.invariant

pub returns-clause-first : goal.returns-clause-first
returns-clause-first c = first_of_none c.args.rules.now c.args.tags.now c.args.from c.loop-rest.rest.now c.loop-rest.first _ c.in_default.len_below c.loop-rest.invariant

pub returns-clause-within : goal.returns-clause-within
returns-clause-within c =
    let first = first_of_none c.args.rules.now c.args.tags.now c.args.from c.loop-rest.rest.now c.loop-rest.first _ c.in_default.len_below c.loop-rest.invariant in
    first_within c.args.rules.now c.args.shapes.now c.args.tags.now c.args.from c.loop-rest.first first
