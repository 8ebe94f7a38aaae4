-- The order of records is a total one. Records that tie are of one object, and those with ids of objects are one record.
use Rattle.std.proofs.Common.{◌≡◌, ℕ, ◌+◌, ◌*◌, ◌^◌, ◌≤◌, List, [], ◌∷◌, refl, sym, ap, ◌∙◌, arith}
use Rattle.std.specs.Prelude.{ℤ, pos, negsuc, unsigned_abs}
use Rattle.std.specs.Ordering.{nat_cmp, int_cmp, ordering_then, ordering_reverse, then_cmp, on}
use Rattle.std.specs.Cmp.Lexicographic.{slice_cmp}
use Rattle.std.specs.Cmp.{IsTotalOrder}
use Rattle.std.specs.declared.cmp.Ordering.{Ordering}
use Rattle.std.specs.declared.cmp.Ordering.TheVariants.{Less, Equal, Greater}
use Rattle.std.proofs.lemmas.Cmp.{nat_cmp_total, int_cmp_total, nat_list_cmp_total, on_total, then_total, lists_total, ranked, int_ranked}
use Rattle.live_model.specs.declared.ids.Kind.{Kind}
use Rattle.live_model.specs.declared.ids.Kind.TheVariants.{Node, Way, Relation}
use Rattle.live_model.specs.declared.points.Point.{Point}
use Rattle.live_model.specs.declared.shapes.Shape.{Shape}
use Rattle.live_model.specs.declared.shapes.Shape.TheVariants.{Point as PointShape, Line as LineShape, Area as AreaShape}
use Rattle.live_model.specs.declared.directions.Dir.{Dir}
use Rattle.live_model.specs.declared.directions.Dir.TheVariants.{Both, Forward, Backward}
use Rattle.live_model.specs.declared.addresses.AddrKind.{AddrKind}
use Rattle.live_model.specs.declared.addresses.AddrKind.TheVariants.{Place, Street, House}
use Rattle.live_model.specs.declared.addresses.AddrRec.{AddrRec}
use Rattle.live_model.specs.declared.records.MapRec.{MapRec}
use Rattle.live_model.specs.declared.records.PoiRec.{PoiRec}
use Rattle.live_model.specs.declared.records.RoadNode.{RoadNode}
use Rattle.live_model.specs.declared.records.RoadRec.{RoadRec}
use Rattle.live_model.specs.declared.records.BanRec.{BanRec}
use Rattle.live_model.specs.declared.records.Rec.{Rec}
use Rattle.live_model.specs.declared.records.Rec.TheVariants.{Map, Poi, Addr, Road, Ban}
use Rattle.live_model.specs.Ids.{Id, IsId, ordinal, rank, lifted_by}
use Rattle.live_model.specs.Rules.{shape_rank}
use Rattle.live_model.specs.Records.{text_cmp, point_cmp, node_cmp, address_rank, direction_rank, map_cmp, poi_cmp, address_cmp, road_cmp, restriction_cmp, class_rank, record_id, class_cmp, record_cmp}

-- ---- a total order

point_total : IsTotalOrder point_cmp
point_total = then_total (on_total (λ (p : Point). p.x) nat_cmp_total) (on_total (λ (p : Point). p.y) nat_cmp_total)

node_total : IsTotalOrder node_cmp
node_total = then_total (on_total (λ (n : RoadNode). n.id) int_cmp_total) (on_total (λ (n : RoadNode). n.point) point_total)

map_total : IsTotalOrder map_cmp
map_total =
    then_total (on_total (λ (m : MapRec). ordinal m.id) nat_cmp_total) (then_total (on_total (λ (m : MapRec). m.rule) nat_cmp_total)
    (then_total (on_total (λ (m : MapRec). shape_rank m.shape) nat_cmp_total)
    (then_total (on_total (λ (m : MapRec). m.name) nat_list_cmp_total) (on_total (λ (m : MapRec). m.points) (lists_total point_total)))))

poi_total : IsTotalOrder poi_cmp
poi_total =
    then_total (on_total (λ (p : PoiRec). ordinal p.id) nat_cmp_total) (then_total (on_total (λ (p : PoiRec). p.category) nat_list_cmp_total)
    (then_total (on_total (λ (p : PoiRec). p.name) nat_list_cmp_total) (on_total (λ (p : PoiRec). p.point) point_total)))

address_total : IsTotalOrder address_cmp
address_total =
    then_total (on_total (λ (a : AddrRec). ordinal a.id) nat_cmp_total) (then_total (on_total (λ (a : AddrRec). address_rank a.kind) nat_cmp_total)
    (then_total (on_total (λ (a : AddrRec). a.lang) nat_list_cmp_total) (then_total (on_total (λ (a : AddrRec). a.name) nat_list_cmp_total)
    (then_total (on_total (λ (a : AddrRec). a.number) nat_list_cmp_total) (on_total (λ (a : AddrRec). a.point) point_total)))))

road_total : IsTotalOrder road_cmp
road_total =
    then_total (on_total (λ (r : RoadRec). ordinal r.id) nat_cmp_total) (then_total (on_total (λ (r : RoadRec). r.rule) nat_cmp_total)
    (then_total (on_total (λ (r : RoadRec). r.value) nat_list_cmp_total) (then_total (on_total (λ (r : RoadRec). direction_rank r.dir) nat_cmp_total)
    (on_total (λ (r : RoadRec). r.nodes) (lists_total node_total)))))

restriction_total : IsTotalOrder restriction_cmp
restriction_total =
    then_total (on_total (λ (b : BanRec). ordinal b.id) nat_cmp_total) (then_total (on_total (λ (b : BanRec). b.value) nat_list_cmp_total)
    (then_total (then_total (on_total (λ (b : BanRec). b.from) int_cmp_total) (then_total (on_total (λ (b : BanRec). b.via) int_cmp_total) (on_total (λ (b : BanRec). b.to) int_cmp_total)))
    (on_total (λ (b : BanRec). b.point) point_total)))

-- the record, where it is of a class: lists of at most one

abbrev pub maps : Rec → List MapRec
maps (Map m) = m ∷ []
maps r = []

abbrev pub pois : Rec → List PoiRec
pois (Poi p) = p ∷ []
pois r = []

abbrev pub addresses : Rec → List AddrRec
addresses (Addr a) = a ∷ []
addresses r = []

abbrev pub roads : Rec → List RoadRec
roads (Road road) = road ∷ []
roads r = []

abbrev pub bans : Rec → List BanRec
bans (Ban b) = b ∷ []
bans r = []

-- by class, then by the record of each class
abbrev pub by_class : Rec → Rec → Ordering
by_class = then_cmp (on class_rank nat_cmp) (then_cmp (on maps (slice_cmp map_cmp)) (then_cmp (on pois (slice_cmp poi_cmp))
    (then_cmp (on addresses (slice_cmp address_cmp)) (then_cmp (on roads (slice_cmp road_cmp)) (on bans (slice_cmp restriction_cmp))))))

ended : (o : Ordering) → o ≡ ordering_then o Equal
ended Less = refl
ended Equal = refl
ended Greater = refl

ended_twice : (o : Ordering) → o ≡ ordering_then (ordering_then o Equal) Equal
ended_twice Less = refl
ended_twice Equal = refl
ended_twice Greater = refl

pub class_is : (a b : Rec) → class_cmp a b ≡ by_class a b
class_is (Map a) (Map b) = ended_twice (map_cmp a b)
class_is (Poi a) (Poi b) = ended_twice (poi_cmp a b)
class_is (Addr a) (Addr b) = ended_twice (address_cmp a b)
class_is (Road a) (Road b) = ended_twice (road_cmp a b)
class_is (Ban a) (Ban b) = ended (restriction_cmp a b)
class_is a b = refl

total_alike : {K : Type 0} (R S : K → K → Ordering) → ((x y : K) → S x y ≡ R x y) → IsTotalOrder R → IsTotalOrder S
total_alike R S e o = record {
  antisymm = λ x y. e x y ∙ o.antisymm x y ∙ ap ordering_reverse (sym (e y x));
  trans = λ x y z f g. e x z ∙ o.trans x y z (sym (e x y) ∙ f) (sym (e y z) ∙ g);
  congr = λ x y z f. e x z ∙ o.congr x y z (sym (e x y) ∙ f) ∙ sym (e y z);
}

by_class_total : IsTotalOrder by_class
by_class_total =
    then_total (on_total class_rank nat_cmp_total) (then_total (on_total maps (lists_total map_total)) (then_total (on_total pois (lists_total poi_total))
    (then_total (on_total addresses (lists_total address_total)) (then_total (on_total roads (lists_total road_total)) (on_total bans (lists_total restriction_total))))))

pub record_total : IsTotalOrder record_cmp
record_total = then_total (on_total (λ (r : Rec). ordinal (record_id r)) nat_cmp_total) (total_alike by_class class_cmp class_is by_class_total)

-- ---- what ties is one

-- what ties is one thing
abbrev Tells : {K : Type 0} → (K → K → Ordering) → Type 0
Tells {K} R = (x y : K) → R x y ≡ Equal → x ≡ y

pub first_equal : (o p : Ordering) → ordering_then o p ≡ Equal → o ≡ Equal
first_equal Less p e = absurd (cc)
first_equal Equal p e = refl
first_equal Greater p e = absurd (cc)

pub then_equal : (o p : Ordering) → ordering_then o p ≡ Equal → p ≡ Equal
then_equal Less p e = absurd (cc)
then_equal Equal p e = e
then_equal Greater p e = absurd (cc)

nat_tells : Tells nat_cmp
nat_tells x y e = ranked x y Equal (sym e)

int_tells : Tells int_cmp
int_tells x y e = int_ranked x y Equal (sym e)

list_tells : {K : Type 0} (R : K → K → Ordering) → Tells R → Tells (slice_cmp R)
list_tells R tells [] [] e = refl
list_tells R tells [] (y ∷ ys) e = absurd (cc)
list_tells R tells (x ∷ xs) [] e = absurd (cc)
list_tells R tells (x ∷ xs) (y ∷ ys) e =
    let here : x ≡ y = tells x y (first_equal (R x y) (slice_cmp R xs ys) e) in
    let rest : xs ≡ ys = list_tells R tells xs ys (then_equal (R x y) (slice_cmp R xs ys) e) in
    cc

-- records of one object
pub tied_ids : (a b : Rec) → record_cmp a b ≡ Equal → ordinal (record_id a) ≡ ordinal (record_id b)
tied_ids a b e = nat_tells (ordinal (record_id a)) (ordinal (record_id b)) (first_equal (nat_cmp (ordinal (record_id a)) (ordinal (record_id b))) (class_cmp a b) e)

same_lift : (by : ℕ) (y z : ℤ) → unsigned_abs y ≤ by → unsigned_abs z ≤ by → lifted_by by y ≡ lifted_by by z → y ≡ z
same_lift by (pos m) (pos n) a b e = let s : m ≡ n = omega arith in ap pos s
same_lift by (pos m) (negsuc n) a b e = absurd (omega arith)
same_lift by (negsuc m) (pos n) a b e = absurd (omega arith)
same_lift by (negsuc m) (negsuc n) a b e = let s : m ≡ n = omega arith in ap negsuc s

lift_most : (by : ℕ) (z : ℤ) → unsigned_abs z ≤ by → lifted_by by z ≤ by + by
lift_most by (pos n) a = omega arith
lift_most by (negsuc n) a = omega arith

same_rank : (j k : Kind) (m n : ℕ) → m ≤ 2 ^ 49 → n ≤ 2 ^ 49 → rank j * 2 ^ 50 + m ≡ rank k * 2 ^ 50 + n → (j ≡ k) × (m ≡ n)
same_rank Node Node m n a b e = (refl, omega arith)
same_rank Way Way m n a b e = (refl, omega arith)
same_rank Relation Relation m n a b e = (refl, omega arith)
same_rank j k m n a b e = absurd (omega arith)

pub one_id : (a b : Id) → IsId a → IsId b → ordinal a ≡ ordinal b → a ≡ b
one_id a b good_a good_b e =
    let most_a = lift_most (2 ^ 48) a.number good_a in
    let most_b = lift_most (2 ^ 48) b.number good_b in
    let parts = same_rank a.kind b.kind (lifted_by (2 ^ 48) a.number) (lifted_by (2 ^ 48) b.number) (omega arith) (omega arith) e in
    let number = same_lift (2 ^ 48) a.number b.number good_a good_b parts.1 in
    λ i. record { kind = parts.0 i; number = number i }

shape_tells : (a b : Shape) → nat_cmp (shape_rank a) (shape_rank b) ≡ Equal → a ≡ b
shape_tells PointShape PointShape e = refl
shape_tells LineShape LineShape e = refl
shape_tells AreaShape AreaShape e = refl
shape_tells a b e = absurd (cc)

kind_tells : (a b : AddrKind) → nat_cmp (address_rank a) (address_rank b) ≡ Equal → a ≡ b
kind_tells Place Place e = refl
kind_tells Street Street e = refl
kind_tells House House e = refl
kind_tells a b e = absurd (cc)

dir_tells : (a b : Dir) → nat_cmp (direction_rank a) (direction_rank b) ≡ Equal → a ≡ b
dir_tells Both Both e = refl
dir_tells Forward Forward e = refl
dir_tells Backward Backward e = refl
dir_tells a b e = absurd (cc)

pub text_tells : Tells text_cmp
text_tells = list_tells nat_cmp nat_tells

point_tells : Tells point_cmp
point_tells a b e =
    let x = nat_tells a.x b.x (first_equal (nat_cmp a.x b.x) (nat_cmp a.y b.y) e) in
    let y = nat_tells a.y b.y (then_equal (nat_cmp a.x b.x) (nat_cmp a.y b.y) e) in
    λ i. record { x = x i; y = y i }

node_tells : Tells node_cmp
node_tells a b e =
    let id = int_tells a.id b.id (first_equal (int_cmp a.id b.id) (point_cmp a.point b.point) e) in
    let point = point_tells a.point b.point (then_equal (int_cmp a.id b.id) (point_cmp a.point b.point) e) in
    λ i. record { id = id i; point = point i }

id_tells : (a b : Id) → IsId a → IsId b → nat_cmp (ordinal a) (ordinal b) ≡ Equal → a ≡ b
id_tells a b good_a good_b e = one_id a b good_a good_b (nat_tells (ordinal a) (ordinal b) e)

map_tells : (a b : MapRec) → IsId a.id → IsId b.id → map_cmp a b ≡ Equal → a ≡ b
map_tells a b good_a good_b e =
    let e1 = then_equal (nat_cmp (ordinal a.id) (ordinal b.id)) _ e in
    let e2 = then_equal (nat_cmp a.rule b.rule) _ e1 in
    let e3 = then_equal (nat_cmp (shape_rank a.shape) (shape_rank b.shape)) _ e2 in
    let id = id_tells a.id b.id good_a good_b (first_equal (nat_cmp (ordinal a.id) (ordinal b.id)) _ e) in
    let rule = nat_tells a.rule b.rule (first_equal (nat_cmp a.rule b.rule) _ e1) in
    let shape = shape_tells a.shape b.shape (first_equal (nat_cmp (shape_rank a.shape) (shape_rank b.shape)) _ e2) in
    let name = text_tells a.name b.name (first_equal (text_cmp a.name b.name) _ e3) in
    let points = list_tells point_cmp point_tells a.points b.points (then_equal (text_cmp a.name b.name) _ e3) in
    λ i. record { id = id i; rule = rule i; shape = shape i; name = name i; points = points i }

poi_tells : (a b : PoiRec) → IsId a.id → IsId b.id → poi_cmp a b ≡ Equal → a ≡ b
poi_tells a b good_a good_b e =
    let e1 = then_equal (nat_cmp (ordinal a.id) (ordinal b.id)) _ e in
    let e2 = then_equal (text_cmp a.category b.category) _ e1 in
    let id = id_tells a.id b.id good_a good_b (first_equal (nat_cmp (ordinal a.id) (ordinal b.id)) _ e) in
    let category = text_tells a.category b.category (first_equal (text_cmp a.category b.category) _ e1) in
    let name = text_tells a.name b.name (first_equal (text_cmp a.name b.name) _ e2) in
    let point = point_tells a.point b.point (then_equal (text_cmp a.name b.name) _ e2) in
    λ i. record { id = id i; category = category i; name = name i; point = point i }

address_tells : (a b : AddrRec) → IsId a.id → IsId b.id → address_cmp a b ≡ Equal → a ≡ b
address_tells a b good_a good_b e =
    let e1 = then_equal (nat_cmp (ordinal a.id) (ordinal b.id)) _ e in
    let e2 = then_equal (nat_cmp (address_rank a.kind) (address_rank b.kind)) _ e1 in
    let e3 = then_equal (text_cmp a.lang b.lang) _ e2 in
    let e4 = then_equal (text_cmp a.name b.name) _ e3 in
    let id = id_tells a.id b.id good_a good_b (first_equal (nat_cmp (ordinal a.id) (ordinal b.id)) _ e) in
    let kind = kind_tells a.kind b.kind (first_equal (nat_cmp (address_rank a.kind) (address_rank b.kind)) _ e1) in
    let lang = text_tells a.lang b.lang (first_equal (text_cmp a.lang b.lang) _ e2) in
    let name = text_tells a.name b.name (first_equal (text_cmp a.name b.name) _ e3) in
    let number = text_tells a.number b.number (first_equal (text_cmp a.number b.number) _ e4) in
    let point = point_tells a.point b.point (then_equal (text_cmp a.number b.number) _ e4) in
    λ i. record { id = id i; kind = kind i; lang = lang i; name = name i; number = number i; point = point i }

road_tells : (a b : RoadRec) → IsId a.id → IsId b.id → road_cmp a b ≡ Equal → a ≡ b
road_tells a b good_a good_b e =
    let e1 = then_equal (nat_cmp (ordinal a.id) (ordinal b.id)) _ e in
    let e2 = then_equal (nat_cmp a.rule b.rule) _ e1 in
    let e3 = then_equal (text_cmp a.value b.value) _ e2 in
    let id = id_tells a.id b.id good_a good_b (first_equal (nat_cmp (ordinal a.id) (ordinal b.id)) _ e) in
    let rule = nat_tells a.rule b.rule (first_equal (nat_cmp a.rule b.rule) _ e1) in
    let value = text_tells a.value b.value (first_equal (text_cmp a.value b.value) _ e2) in
    let dir = dir_tells a.dir b.dir (first_equal (nat_cmp (direction_rank a.dir) (direction_rank b.dir)) _ e3) in
    let nodes = list_tells node_cmp node_tells a.nodes b.nodes (then_equal (nat_cmp (direction_rank a.dir) (direction_rank b.dir)) _ e3) in
    λ i. record { id = id i; rule = rule i; value = value i; dir = dir i; nodes = nodes i }

restriction_tells : (a b : BanRec) → IsId a.id → IsId b.id → restriction_cmp a b ≡ Equal → a ≡ b
restriction_tells a b good_a good_b e =
    let e1 = then_equal (nat_cmp (ordinal a.id) (ordinal b.id)) _ e in
    let e2 = then_equal (text_cmp a.value b.value) _ e1 in
    let turn = first_equal (ordering_then (int_cmp a.from b.from) (ordering_then (int_cmp a.via b.via) (int_cmp a.to b.to))) _ e2 in
    let turn1 = then_equal (int_cmp a.from b.from) _ turn in
    let id = id_tells a.id b.id good_a good_b (first_equal (nat_cmp (ordinal a.id) (ordinal b.id)) _ e) in
    let value = text_tells a.value b.value (first_equal (text_cmp a.value b.value) _ e1) in
    let from = int_tells a.from b.from (first_equal (int_cmp a.from b.from) _ turn) in
    let via = int_tells a.via b.via (first_equal (int_cmp a.via b.via) _ turn1) in
    let to = int_tells a.to b.to (then_equal (int_cmp a.via b.via) _ turn1) in
    let point = point_tells a.point b.point (then_equal (ordering_then (int_cmp a.from b.from) (ordering_then (int_cmp a.via b.via) (int_cmp a.to b.to))) _ e2) in
    λ i. record { id = id i; value = value i; from = from i; via = via i; to = to i; point = point i }

class_tells : (a b : Rec) → IsId (record_id a) → IsId (record_id b) → class_cmp a b ≡ Equal → a ≡ b
class_tells (Map a) (Map b) good_a good_b e = ap Map (map_tells a b good_a good_b e)
class_tells (Poi a) (Poi b) good_a good_b e = ap Poi (poi_tells a b good_a good_b e)
class_tells (Addr a) (Addr b) good_a good_b e = ap Addr (address_tells a b good_a good_b e)
class_tells (Road a) (Road b) good_a good_b e = ap Road (road_tells a b good_a good_b e)
class_tells (Ban a) (Ban b) good_a good_b e = ap Ban (restriction_tells a b good_a good_b e)
class_tells a b good_a good_b e = absurd (cc)

pub same_record : (a b : Rec) → IsId (record_id a) → IsId (record_id b) → record_cmp a b ≡ Equal → a ≡ b
same_record a b good_a good_b e = class_tells a b good_a good_b (then_equal (nat_cmp (ordinal (record_id a)) (ordinal (record_id b))) (class_cmp a b) e)
