-- The orders of roads and of restrictions are total, and records with ids that tie are one.
use Rattle.std.proofs.Common.{◌≡◌, ℕ, List, [], ◌∷◌, refl, ap, ◌∙◌}
use Rattle.std.specs.Prelude.{ℤ}
use Rattle.std.specs.Ordering.{nat_cmp, int_cmp}
use Rattle.std.specs.Cmp.Lexicographic.{slice_cmp}
use Rattle.std.specs.Cmp.{IsTotalOrder}
use Rattle.std.specs.declared.cmp.Ordering.TheVariants.{Equal}
use Rattle.std.proofs.lemmas.Map.Lookups.{exact_signed}
use Rattle.std.proofs.lemmas.Cmp.{nat_cmp_total, int_cmp_total, nat_list_cmp_total, on_total, then_total, lists_total}
use Rattle.live_model.specs.declared.directions.Dir.{Dir}
use Rattle.live_model.specs.declared.directions.Dir.TheVariants.{Both, Forward, Backward}
use Rattle.live_model.specs.declared.points.Point.{Point}
use Rattle.live_model.specs.declared.records.RoadNode.{RoadNode}
use Rattle.live_model.specs.declared.records.RoadRec.{RoadRec}
use Rattle.live_model.specs.declared.records.BanRec.{BanRec}
use Rattle.live_model.specs.Ids.{Id, IsId, ordinal}
use Rattle.live_model.specs.Records.{direction_rank, node_cmp, point_cmp, restriction_cmp, road_cmp, turn_cmp}
use Rattle.text_table.proofs.Rising.{equal_is}
use Rattle.boxed_write.specs.Classes.{IsPackedBy}
use Rattle.boxed_write.proofs.TiedParts.{point_total, then_equal, same_number, same_id, same_point}
use Rattle.road_section.specs.Roads.{IsDrawn, road_packing}
use Rattle.road_section.specs.Restrictions.{IsNumbered, ban_packing}

-- ---- the orders are total

node_total : IsTotalOrder node_cmp
node_total = then_total (on_total (λ (n : RoadNode). n.id) int_cmp_total) (on_total (λ (n : RoadNode). n.point) point_total)

pub road_total : IsTotalOrder road_cmp
road_total =
    then_total (on_total (λ (r : RoadRec). ordinal r.id) nat_cmp_total) (then_total (on_total (λ (r : RoadRec). r.rule) nat_cmp_total)
    (then_total (on_total (λ (r : RoadRec). r.value) nat_list_cmp_total)
    (then_total (on_total (λ (r : RoadRec). direction_rank r.dir) nat_cmp_total) (on_total (λ (r : RoadRec). r.nodes) (lists_total node_total)))))

turn_total : IsTotalOrder turn_cmp
turn_total =
    then_total (on_total (λ (b : BanRec). b.from) int_cmp_total)
    (then_total (on_total (λ (b : BanRec). b.via) int_cmp_total) (on_total (λ (b : BanRec). b.to) int_cmp_total))

pub ban_total : IsTotalOrder restriction_cmp
ban_total =
    then_total (on_total (λ (b : BanRec). ordinal b.id) nat_cmp_total) (then_total (on_total (λ (b : BanRec). b.value) nat_list_cmp_total)
    (then_total turn_total (on_total (λ (b : BanRec). b.point) point_total)))

-- ---- what ties is one

same_int : (a b : ℤ) → int_cmp a b ≡ Equal → a ≡ b
same_int a b e = exact_signed a b e

same_node : (a b : RoadNode) → node_cmp a b ≡ Equal → a ≡ b
same_node a b e =
    let parts = then_equal (int_cmp a.id b.id) (point_cmp a.point b.point) e in
    ap (λ (n : ℤ). record { id = n; point = a.point }) (same_int a.id b.id parts.0) ∙ ap (λ (p : Point). record { id = b.id; point = p }) (same_point a.point b.point parts.1)

same_nodes : (ms ns : List RoadNode) → slice_cmp node_cmp ms ns ≡ Equal → ms ≡ ns
same_nodes [] [] e = refl
same_nodes [] (b ∷ ns) e = absurd (cc)
same_nodes (a ∷ ms) [] e = absurd (cc)
same_nodes (a ∷ ms) (b ∷ ns) e =
    let parts = then_equal (node_cmp a b) (slice_cmp node_cmp ms ns) e in
    ap (λ (n : RoadNode). n ∷ ms) (same_node a b parts.0) ∙ ap (λ (rest : List RoadNode). b ∷ rest) (same_nodes ms ns parts.1)

same_direction : (a b : Dir) → direction_rank a ≡ direction_rank b → a ≡ b
same_direction Both Both e = refl
same_direction Both Forward e = absurd (cc)
same_direction Both Backward e = absurd (cc)
same_direction Forward Both e = absurd (cc)
same_direction Forward Forward e = refl
same_direction Forward Backward e = absurd (cc)
same_direction Backward Both e = absurd (cc)
same_direction Backward Forward e = absurd (cc)
same_direction Backward Backward e = refl

pub same_road : (a b : RoadRec) → IsId a.id → IsId b.id → road_cmp a b ≡ Equal → a ≡ b
same_road a b good_a good_b e =
    let p1 = then_equal (nat_cmp (ordinal a.id) (ordinal b.id)) _ e in
    let p2 = then_equal (nat_cmp a.rule b.rule) _ p1.1 in
    let p3 = then_equal (slice_cmp nat_cmp a.value b.value) _ p2.1 in
    let p4 = then_equal (nat_cmp (direction_rank a.dir) (direction_rank b.dir)) _ p3.1 in
    let made : Id → ℕ → List ℕ → Dir → List RoadNode → RoadRec = λ id rule value dir nodes. record { id = id; rule = rule; value = value; dir = dir; nodes = nodes } in
    ap (λ (x : Id). made x a.rule a.value a.dir a.nodes) (same_id a.id b.id good_a good_b (same_number (ordinal a.id) (ordinal b.id) p1.0))
    ∙ ap (λ (x : ℕ). made b.id x a.value a.dir a.nodes) (same_number a.rule b.rule p2.0)
    ∙ ap (λ (x : List ℕ). made b.id b.rule x a.dir a.nodes) (equal_is a.value b.value p3.0)
    ∙ ap (λ (x : Dir). made b.id b.rule b.value x a.nodes) (same_direction a.dir b.dir (same_number (direction_rank a.dir) (direction_rank b.dir) p4.0))
    ∙ ap (made b.id b.rule b.value b.dir) (same_nodes a.nodes b.nodes p4.1)

pub same_ban : (a b : BanRec) → IsId a.id → IsId b.id → restriction_cmp a b ≡ Equal → a ≡ b
same_ban a b good_a good_b e =
    let p1 = then_equal (nat_cmp (ordinal a.id) (ordinal b.id)) _ e in
    let p2 = then_equal (slice_cmp nat_cmp a.value b.value) _ p1.1 in
    let p3 = then_equal (turn_cmp a b) (point_cmp a.point b.point) p2.1 in
    let p4 = then_equal (int_cmp a.from b.from) _ p3.0 in
    let p5 = then_equal (int_cmp a.via b.via) (int_cmp a.to b.to) p4.1 in
    let made : Id → List ℕ → ℤ → ℤ → ℤ → Point → BanRec = λ id value from via to point. record { id = id; value = value; from = from; via = via; to = to; point = point } in
    ap (λ (x : Id). made x a.value a.from a.via a.to a.point) (same_id a.id b.id good_a good_b (same_number (ordinal a.id) (ordinal b.id) p1.0))
    ∙ ap (λ (x : List ℕ). made b.id x a.from a.via a.to a.point) (equal_is a.value b.value p2.0)
    ∙ ap (λ (x : ℤ). made b.id b.value x a.via a.to a.point) (same_int a.from b.from p4.0)
    ∙ ap (λ (x : ℤ). made b.id b.value b.from x a.to a.point) (same_int a.via b.via p5.0)
    ∙ ap (λ (x : ℤ). made b.id b.value b.from b.via x a.point) (same_int a.to b.to p5.1)
    ∙ ap (made b.id b.value b.from b.via b.to) (same_point a.point b.point p3.1)

-- roads that can be drawn have one place in a section
pub road_laws : IsPackedBy road_packing IsDrawn
road_laws = record { total = road_total; same = λ a b good_a good_b e. same_road a b good_a.0 good_b.0 e }

-- and so have restrictions with ids
pub ban_laws : IsPackedBy ban_packing IsNumbered
ban_laws = record { total = ban_total; same = same_ban }
