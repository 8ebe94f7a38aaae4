use Rattle.std.proofs.Common.{◌≡◌, ◌∙◌, ap, subst, map, IfOk}
use Rattle.live_model.specs.Geometry.{one_point}
use Rattle.live_model.specs.Records.{poi_record}
use Rattle.object_geometry.specs.Referred.{referred_in}
use Rattle.derive_poi.proofs.Found.{found}
use Rattle.derive_poi.proofs.records.records_of.Goals as goal

pub returns : goal.returns
returns c =
    let whole =
    found c.args.rules.now c.args.entity.now (referred_in c.args.look.now c.args.entity.now) c.in_ok-points.points c.in-Some.point c.in_ok-points.ensures
    (c.in-Some.ensures ∙ ap one_point c.as_slice.ensures) in
    subst (λ rs. IfOk c.records_in.result (λ records. records.items ≡ rs)) (ap (map (poi_record c.args.entity.now c.in-Some.point)) c.in_ok-categories.ensures ∙ whole) c.records_in.ensures
