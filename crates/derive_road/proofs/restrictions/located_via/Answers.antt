use Rattle.std.proofs.Common.{Some, codes, sym, ◌∙◌, ap}
use Rattle.live_model.specs.Geometry.{located}
use Rattle.live_model.specs.declared.ids.Kind.TheVariants.{Node}
use Rattle.derive_road.proofs.Turned.{located_is}
use Rattle.derive_road.proofs.restrictions.located_via.Goals as goal

pub returns-in_default-get : goal.returns-in_default-get
returns-in_default-get c =
    sym (located_is c.args.look.now c.args.entity.now Node (codes "via") (Some c.in-Some.via) c.in-Some.ensures
    ∙ ap (λ o. located (c.in-Some.via, o)) (sym c.in_default-get.ensures.found))

pub returns : goal.returns
returns c =
    c.node_at.ensures
    ∙ sym (located_is c.args.look.now c.args.entity.now Node (codes "via") (Some c.in-Some.via) c.in-Some.ensures
    ∙ ap (λ o. located (c.in-Some.via, o)) (sym c.in-Some-get.ensures.found))
