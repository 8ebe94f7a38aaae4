use Rattle.std.proofs.Common.{◌≡◌, [], refl, ◌∙◌, ap, subst, IfOk}
use Rattle.std.proofs.lemmas.Bool.{false≢true}
use Rattle.object_geometry.specs.Referred.{referred_in}
use Rattle.derive_map.specs.Drawings.{drawings}
use Rattle.derive_map.proofs.Drawn.{pointless, drawn, undrawn}
use Rattle.derive_map.proofs.records.records_of.Goals as goal

pub returns-in_default-clause-records : goal.returns-in_default-clause-records
returns-in_default-clause-records c =
    c.new-in_default.ensures.items
    ∙ undrawn c.args.rules.now c.args.entity.now (referred_in c.args.look.now c.args.entity.now) c.new.result c.new.ensures c.in_default.ensures

pub returns-then-is_empty-clause-records : goal.returns-then-is_empty-clause-records
returns-then-is_empty-clause-records c =
    c.new-then-is_empty.ensures.items
    ∙ pointless c.args.rules.now c.args.entity.now (referred_in c.args.look.now c.args.entity.now) c.in_ok-points.points c.in_ok-points.ensures (c.if-is_empty.ensures.0 refl)

pub returns-clause-records : goal.returns-clause-records
returns-clause-records c =
    let some : c.in_ok-points.points ≡ [] → ⊥ = λ none. false≢true (c.if-is_empty.ensures.1 none) in
    let whole = drawn c.args.rules.now c.args.entity.now (referred_in c.args.look.now c.args.entity.now) c.in_ok-points.points c.in_ok-points.ensures some in
    subst (λ rs. IfOk c.drawings.result (λ records. records.items ≡ rs)) (ap (drawings c.args.rules.now c.args.entity.now) c.as_slice.ensures ∙ whole) c.drawings.ensures.records
