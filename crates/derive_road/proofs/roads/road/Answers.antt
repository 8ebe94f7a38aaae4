use Rattle.std.proofs.Common.{◌∷◌, [], refl, ◌∙◌, ap, sym}
use Rattle.std.proofs.lemmas.Bool.{false≢true}
use Rattle.object_geometry.specs.Referred.{referred_in}
use Rattle.derive_road.proofs.Driven.{undriven, pointless, driven}
use Rattle.derive_road.proofs.roads.road.Goals as goal

pub returns-in_default : goal.returns-in_default
returns-in_default c = undriven c.args.rules.now c.args.entity.now (referred_in c.args.look.now c.args.entity.now) c.new.result c.new.ensures c.in_default.ensures

pub returns-then-not-has_points : goal.returns-then-not-has_points
returns-then-not-has_points c =
    pointless c.args.rules.now c.args.entity.now (referred_in c.args.look.now c.args.entity.now) c.as_slice.result.now (c.as_slice.ensures ∙ c.in_ok-nodes.ensures)
    (λ some. false≢true (c.if-not-has_points.ensures.1 some))

pub returns : goal.returns
returns c =
    ap (λ road. road ∷ []) c.in_ok-road_along.ensures
    ∙ ap (λ ns. Rattle.derive_road.specs.Roads.road_along c.args.entity.now ns (c.in-Some.index, c.in-Some.rule.now) ∷ []) (sym c.as_slice.ensures)
    ∙ driven c.args.rules.now c.args.entity.now (referred_in c.args.look.now c.args.entity.now) c.new.result c.new.ensures (c.in-Some.index, c.in-Some.rule.now) _ c.in-Some.ensures
    c.as_slice.result.now (c.as_slice.ensures ∙ c.in_ok-nodes.ensures) (c.if-not-has_points.ensures.0 refl)
