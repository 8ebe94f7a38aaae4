-- The order of points of interest is a total one, and those with ids that tie are one.
use Rattle.std.proofs.Common.{◌≡◌, ℕ, List, ap, ◌∙◌}
use Rattle.std.specs.Ordering.{nat_cmp}
use Rattle.std.specs.Cmp.Lexicographic.{slice_cmp}
use Rattle.std.specs.Cmp.{IsTotalOrder}
use Rattle.std.specs.declared.cmp.Ordering.TheVariants.{Equal}
use Rattle.std.proofs.lemmas.Cmp.{nat_cmp_total, nat_list_cmp_total, on_total, then_total}
use Rattle.live_model.specs.declared.points.Point.{Point}
use Rattle.live_model.specs.declared.records.PoiRec.{PoiRec}
use Rattle.live_model.specs.Ids.{Id, IsId, ordinal}
use Rattle.live_model.specs.Records.{poi_cmp}
use Rattle.text_table.proofs.Rising.{equal_is}
use Rattle.boxed_write.specs.Classes.{IsPackedBy}
use Rattle.boxed_write.proofs.TiedParts.{point_total, then_equal, same_number, same_id, same_point}
use Rattle.poi_section.specs.Packed.{IsPlaced, poi_packing}

-- by id, category, name and point, each of them in a total order
pub poi_total : IsTotalOrder poi_cmp
poi_total =
    then_total (on_total (λ (p : PoiRec). ordinal p.id) nat_cmp_total) (then_total (on_total (λ (p : PoiRec). p.category) nat_list_cmp_total)
    (then_total (on_total (λ (p : PoiRec). p.name) nat_list_cmp_total) (on_total (λ (p : PoiRec). p.point) point_total)))

-- what ties is one
pub same_poi : (a b : PoiRec) → IsId a.id → IsId b.id → poi_cmp a b ≡ Equal → a ≡ b
same_poi a b good_a good_b e =
    let p1 = then_equal (nat_cmp (ordinal a.id) (ordinal b.id)) _ e in
    let p2 = then_equal (slice_cmp nat_cmp a.category b.category) _ p1.1 in
    let p3 = then_equal (slice_cmp nat_cmp a.name b.name) _ p2.1 in
    let made : Id → List ℕ → List ℕ → Point → PoiRec = λ i c n p. record { id = i; category = c; name = n; point = p } in
    ap (λ (x : Id). made x a.category a.name a.point) (same_id a.id b.id good_a good_b (same_number (ordinal a.id) (ordinal b.id) p1.0))
    ∙ ap (λ (x : List ℕ). made b.id x a.name a.point) (equal_is a.category b.category p2.0)
    ∙ ap (λ (x : List ℕ). made b.id b.category x a.point) (equal_is a.name b.name p3.0)
    ∙ ap (λ (x : Point). made b.id b.category b.name x) (same_point a.point b.point p3.1)

-- records that can be placed have one place in a section
pub poi_laws : IsPackedBy poi_packing IsPlaced
poi_laws = record { total = poi_total; same = λ a b good_a good_b e. same_poi a b good_a.0 good_b.0 e }
