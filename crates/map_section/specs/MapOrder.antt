-- The order of map records is a total one, and records with ids that tie are one.
use Rattle.std.proofs.Common.{◌≡◌, ℕ, List, refl, ap, ◌∙◌, arith}
use Rattle.std.specs.Ordering.{nat_cmp}
use Rattle.std.specs.Cmp.Lexicographic.{slice_cmp}
use Rattle.std.specs.Cmp.{IsTotalOrder}
use Rattle.std.specs.declared.cmp.Ordering.TheVariants.{Equal}
use Rattle.std.proofs.lemmas.Cmp.{nat_cmp_total, nat_list_cmp_total, on_total, then_total, lists_total}
use Rattle.live_model.specs.declared.points.Point.{Point}
use Rattle.live_model.specs.declared.shapes.Shape.{Shape}
use Rattle.live_model.specs.declared.shapes.Shape.TheVariants.{Point as PointShape, Line as LineShape, Area as AreaShape}
use Rattle.live_model.specs.declared.records.MapRec.{MapRec}
use Rattle.live_model.specs.Ids.{Id, IsId, ordinal}
use Rattle.live_model.specs.Rules.{shape_rank}
use Rattle.live_model.specs.Records.{map_cmp}
use Rattle.text_table.proofs.Rising.{equal_is}
use Rattle.boxed_write.specs.Classes.{IsPackedBy}
use Rattle.boxed_write.proofs.TiedParts.{point_total, then_equal, same_number, same_id, same_points}
use Rattle.map_section.specs.Packed.{IsDrawn, map_packing}

pub map_total : IsTotalOrder map_cmp
map_total =
    then_total (on_total (λ (m : MapRec). ordinal m.id) nat_cmp_total) (then_total (on_total (λ (m : MapRec). m.rule) nat_cmp_total)
    (then_total (on_total (λ (m : MapRec). shape_rank m.shape) nat_cmp_total)
    (then_total (on_total (λ (m : MapRec). m.name) nat_list_cmp_total) (on_total (λ (m : MapRec). m.points) (lists_total point_total)))))

-- ---- what ties is one

same_shape : (a b : Shape) → shape_rank a ≡ shape_rank b → a ≡ b
same_shape PointShape PointShape e = refl
same_shape PointShape LineShape e = absurd (omega arith)
same_shape PointShape AreaShape e = absurd (omega arith)
same_shape LineShape PointShape e = absurd (omega arith)
same_shape LineShape LineShape e = refl
same_shape LineShape AreaShape e = absurd (omega arith)
same_shape AreaShape PointShape e = absurd (omega arith)
same_shape AreaShape LineShape e = absurd (omega arith)
same_shape AreaShape AreaShape e = refl

pub same_record : (a b : MapRec) → IsId a.id → IsId b.id → map_cmp a b ≡ Equal → a ≡ b
same_record a b good_a good_b e =
    let p1 = then_equal (nat_cmp (ordinal a.id) (ordinal b.id)) _ e in
    let p2 = then_equal (nat_cmp a.rule b.rule) _ p1.1 in
    let p3 = then_equal (nat_cmp (shape_rank a.shape) (shape_rank b.shape)) _ p2.1 in
    let p4 = then_equal (slice_cmp nat_cmp a.name b.name) _ p3.1 in
    ap (λ (x : Id). record { id = x; rule = a.rule; shape = a.shape; name = a.name; points = a.points }) (same_id a.id b.id good_a good_b (same_number (ordinal a.id) (ordinal b.id) p1.0))
    ∙ ap (λ (x : ℕ). record { id = b.id; rule = x; shape = a.shape; name = a.name; points = a.points }) (same_number a.rule b.rule p2.0)
    ∙ ap (λ (x : Shape). record { id = b.id; rule = b.rule; shape = x; name = a.name; points = a.points }) (same_shape a.shape b.shape (same_number (shape_rank a.shape) (shape_rank b.shape) p3.0))
    ∙ ap (λ (x : List ℕ). record { id = b.id; rule = b.rule; shape = b.shape; name = x; points = a.points }) (equal_is a.name b.name p4.0)
    ∙ ap (λ (x : List Point). record { id = b.id; rule = b.rule; shape = b.shape; name = b.name; points = x }) (same_points a.points b.points p4.1)

-- records that can be drawn have one place in a section
pub map_laws : IsPackedBy map_packing IsDrawn
map_laws = record { total = map_total; same = λ a b good_a good_b e. same_record a b good_a.0 good_b.0 e }
