use Rattle.std.proofs.Common.{◌≡◌, ◌++◌, map, sym, ◌∙◌, ap, subst, IfOk}
use Rattle.live_model.specs.declared.records.Rec.TheVariants.{Road, Ban}
use Rattle.live_model.specs.Records.{restriction_records, restriction_records_of, road_records, road_records_of}
use Rattle.object_geometry.specs.Referred.{referred_in}
use Rattle.object_geometry.proofs.Derived.{made_of_object, made_of_nothing}
use Rattle.derive_road.proofs.records.records_at.Goals as goal

pub returns-in-Some : goal.returns-in-Some
unfolding road_records_of restriction_records_of
returns-in-Some c =
    let road = made_of_object (road_records c.args.rules.now) c.args.look.now c.args.id.now c.in-Some.entity.now c.in-Some.ensures.found in
    let turn = made_of_object restriction_records c.args.look.now c.args.id.now c.in-Some.entity.now c.in-Some.ensures.found in
    subst (λ rs. IfOk c.records_of.result (λ records. records.items ≡ rs))
    (sym (ap (λ rs. map Road rs ++ map Ban (restriction_records_of c.args.look.now c.args.id.now)) road
    ∙ ap (λ bs. map Road (road_records c.args.rules.now c.in-Some.entity.now (referred_in c.args.look.now c.in-Some.entity.now)) ++ map Ban bs) turn)) c.records_of.ensures

pub returns-in-None : goal.returns-in-None
unfolding road_records_of restriction_records_of
returns-in-None c =
    let road = made_of_nothing (road_records c.args.rules.now) c.args.look.now c.args.id.now c.in-None.ensures.found in
    let turn = made_of_nothing restriction_records c.args.look.now c.args.id.now c.in-None.ensures.found in
    c.new.ensures.items ∙ sym (ap (λ rs. map Road rs ++ map Ban (restriction_records_of c.args.look.now c.args.id.now)) road ∙ ap (map Ban) turn)
