-- Roads as a class that keeps the laws of sections: what it shows of one record.
use Rattle.std.proofs.Common.{◌≡◌, ℕ, ◌/◌, ◌%◌, ◌^◌, ◌<◌, ◌≤◌, true, false, List, [], ◌∷◌, ◌++◌, length, map, Option, Some, None, refl, sym, ap, subst, ◌∙◌, arith, append_assoc}
use Rattle.std.specs.Prelude.{flat_map, nat_le, ◌==◌, ◌&&◌, not, slice_get, pos, negsuc, ℤ, ◌+ℤ◌, ◌-ℤ◌, unsigned_abs}
use Rattle.std.specs.List.{AllByRecursion, list_all}
use Rattle.std.specs.Option.{option_map_or}
use Rattle.std.specs.Ordering.{nat_cmp, ordering_then, is_gt}
use Rattle.std.specs.declared.cmp.Ordering.{Ordering}
use Rattle.std.proofs.lemmas.Bool.{and_from, and_parts, or_left, le-leb, eq-eqb, eqb-true, leb-true}
use Rattle.std.proofs.lemmas.Bool.Decides.{nat_tests}
use Rattle.std.proofs.lemmas.Int.{ints}
use Rattle.std.proofs.lemmas.List.{append-nil, length-map}
use Rattle.live_model.specs.declared.directions.Dir.{Dir}
use Rattle.live_model.specs.declared.directions.Dir.TheVariants.{Both, Forward, Backward}
use Rattle.live_model.specs.declared.points.Point.{Point}
use Rattle.live_model.specs.declared.points.Rect.{Rect}
use Rattle.live_model.specs.declared.shapes.Shape.{Shape}
use Rattle.live_model.specs.declared.shapes.Shape.TheVariants.{Point as PointShape, Line as LineShape, Area as AreaShape}
use Rattle.live_model.specs.declared.classes.Class.{Class}
use Rattle.live_model.specs.declared.classes.Class.TheVariants.{Map as MapClass, Poi as PoiClass, Road as RoadClass, Place as PlaceClass}
use Rattle.live_model.specs.declared.rules.Rule.{Rule}
use Rattle.live_model.specs.declared.records.RoadNode.{RoadNode}
use Rattle.live_model.specs.declared.records.RoadRec.{RoadRec}
use Rattle.live_model.specs.Ids.{Id, ordinal, rank}
use Rattle.live_model.specs.Points.{IsInGrid}
use Rattle.live_model.specs.Rules.{admits, shape_rank}
use Rattle.live_model.specs.Records.{direction_rank, is_road, road_cmp}
use Rattle.live_model.specs.Fits.{FitsRoad, IsRoadNode}
use Rattle.obf_wire.specs.Varint.{varint}
use Rattle.obf_wire.specs.Zigzag.{zigzag, unzigzag}
use Rattle.obf_wire.specs.Fields.{field_spelling, number_field, short_field}
use Rattle.coord_delta.specs.Steps.{IsNumber, Place, place_of}
use Rattle.coord_delta.proofs.PlaceLists.{numbers_fit, unzigzag-zigzag}
use Rattle.box_tree.specs.Trees.{Holds}
use Rattle.file_grammar.specs.declared.parts.Boxed.TheVariants.{Road}
use Rattle.file_grammar.specs.declared.parts.Part.TheVariants.{Record}
use Rattle.file_grammar.specs.Facts.{AllHold}
use Rattle.file_grammar.specs.Sections.{Placed, Entry, Block, text_of, object_of, object_kind}
use Rattle.file_grammar.specs.BoxRules.{Beside, follows, holds_place, is_on_grid, is_ordinal, is_way}
use Rattle.file_grammar.specs.RecordRules.{is_object_number, ordinals_rise}
use Rattle.file_grammar.specs.RoadRules.{RoadFields, Stop, direction_from, is_admitted, makes_roads, road_boxing, road_facts, road_facts_of, road_fields, road_node_of, road_read, road_record_of, stops, stops_from}
use Rattle.boxed_write.specs.Packed.{text_number}
use Rattle.boxed_laws.specs.Bare.{Bare, no_more, a_number, some_numbers, bytes_of, AreFormed}
use Rattle.boxed_laws.specs.Classes.{BoxedClass, IsBox, StandsIn, Precedes, IsLawful, PassUtf8, without_marks, entry_of}
use Rattle.boxed_laws.proofs.BoxesAround.{HoldsPoint, grid_of, grid_test, no_points, points_inside, points_of, test_map}
use Rattle.boxed_laws.proofs.ObjectNumbers.{kind_of_ordinal, object_again, object_good, ordinal_is}
use Rattle.boxed_laws.proofs.RecordParts.{found_below, name_utf8, point_in_grid, small_ordinal}
use Rattle.road_section.specs.Roads.{node_list, nodes_from, road_box, road_packing, start, road_fields as packed_fields}

-- ---- the class

-- the numbers that lead from node to node
abbrev pub steps_from : RoadNode → List RoadNode → List ℕ
steps_from from [] = []
steps_from from (n ∷ ns) =
    zigzag (n.id -ℤ from.id) ∷ zigzag (pos n.point.x -ℤ pos from.point.x) ∷ zigzag (pos n.point.y -ℤ pos from.point.y) ∷ steps_from n ns

-- the fields of a road after its ordinal
abbrev pub road_bare : List (List ℕ) → RoadRec → Bare
road_bare texts road =
    a_number 16 road.rule (a_number 24 (text_number texts road.value) (a_number 32 (direction_rank road.dir) (some_numbers 42 (steps_from start road.nodes) no_more)))

abbrev pub road_class : BoxedClass RoadRec
road_class = record { class = Road; packing = road_packing; boxing = road_boxing; reads = road_read; bare = road_bare }

-- ---- its fields

three : (a b c d : List ℕ) → a ++ (b ++ c) ++ d ≡ a ++ (b ++ (c ++ d))
three a b c d = append_assoc a (b ++ c) d ∙ ap (λ (t : List ℕ). a ++ t) (append_assoc b c d)

pub nodes_are_numbers : (from : RoadNode) (ns : List RoadNode) → nodes_from from ns ≡ flat_map varint (steps_from from ns)
nodes_are_numbers from [] = refl
nodes_are_numbers from (n ∷ ns) =
    let a : List ℕ = varint (zigzag (n.id -ℤ from.id)) in
    let b : List ℕ = varint (zigzag (pos n.point.x -ℤ pos from.point.x)) in
    let c : List ℕ = varint (zigzag (pos n.point.y -ℤ pos from.point.y)) in
    three a b c (nodes_from n ns) ∙ ap (λ (t : List ℕ). a ++ (b ++ (c ++ t))) (nodes_are_numbers n ns)

four : (b c d e f : List ℕ) → e ≡ f → b ++ (c ++ (d ++ (e ++ []))) ≡ b ++ c ++ d ++ f
four b c d e f same = ap (λ (t : List ℕ). b ++ (c ++ (d ++ t))) (append-nil e ∙ same) ∙ sym (append_assoc (b ++ c) d f ∙ append_assoc b c (d ++ f))

spelled : (texts : List (List ℕ)) (road : RoadRec) → bytes_of (road_bare texts road) ≡ packed_fields texts road
spelled texts road =
    let ns : List ℕ = flat_map varint (steps_from start road.nodes) in
    four (number_field 2 road.rule) (number_field 3 (text_number texts road.value)) (number_field 4 (direction_rank road.dir)) (field_spelling 42 (length ns) ns) (short_field 5 (node_list road.nodes))
    (ap (λ (payload : List ℕ). field_spelling 42 (length payload) payload) (sym (nodes_are_numbers start road.nodes)))

small_direction : (direction : Dir) → direction_rank direction < 2 ^ 64
small_direction Both = omega arith
small_direction Forward = omega arith
small_direction Backward = omega arith

id_fits : (a b : ℤ) → unsigned_abs a ≤ 2 ^ 48 → unsigned_abs b ≤ 2 ^ 48 → IsNumber (zigzag (a -ℤ b))
id_fits a b a_in b_in = one (a -ℤ b) refl
  where
    one : (v : ℤ) → v ≡ a -ℤ b → zigzag v < 2 ^ 64
    one (pos n) e = omega (arith, ints, a_in, b_in)
    one (negsuc n) e = omega (arith, ints, a_in, b_in)

steps_fit : (from : RoadNode) (ns : List RoadNode) → IsRoadNode from → AllByRecursion IsRoadNode ns → AllByRecursion IsNumber (steps_from from ns)
steps_fit from [] first all = tt
steps_fit from (n ∷ ns) first all =
    let location = numbers_fit from.point (n.point ∷ []) first.1 (all.0.1, tt) in
    (id_fits n.id from.id all.0.0 first.0, (location.0, (location.1.0, steps_fit n ns all.0 all.1)))

steps_whole : (from : RoadNode) (ns : List RoadNode) → length (steps_from from ns) % 3 ≡ 0
steps_whole from [] = refl
steps_whole from (n ∷ ns) = omega (arith, steps_whole n ns)

start_good : IsRoadNode start
start_good = (omega arith, (omega arith, omega arith))

formed : (rules : List Rule) (texts : List (List ℕ)) (road : RoadRec) → length rules < 2 ^ 64 → length texts < 2 ^ 64 → StandsIn road_class FitsRoad rules texts road → AreFormed (Record Road) (Some 8) (road_bare texts road)
formed rules texts road few short s =
    let f = s.suits_rules in
    let rule = found_below rules road.rule f.rule f.in_table in
    let value = s.named.0.most in
    (refl, omega arith, (refl, omega arith, (refl, small_direction road.dir, (refl, (steps_whole start road.nodes, steps_fit start road.nodes start_good f.grid), refl))))

-- ---- its nodes

-- a node where it stands in a file
abbrev pub stop_of : RoadNode → Stop
stop_of n = record { number = n.id; location = place_of n.point }

forth : (a b : ℤ) → b +ℤ (a -ℤ b) ≡ a
forth a b = omega (arith, ints)

led : (a b : ℤ) → b +ℤ unzigzag (zigzag (a -ℤ b)) ≡ a
led a b = ap (λ (v : ℤ). b +ℤ v) (unzigzag-zigzag (a -ℤ b)) ∙ forth a b

abbrev made_stop : ℤ → ℤ → ℤ → Stop
made_stop number x y = record { number = number; location = (x, y) }

abbrev steps_behind : ℤ → ℤ → ℤ → List ℕ → List Stop
steps_behind number x y steps = made_stop number x y ∷ stops_from number (x, y) steps

pub steps_lead : (from : RoadNode) (ns : List RoadNode) → stops_from from.id (place_of from.point) (steps_from from ns) ≡ map stop_of ns
steps_lead from [] = refl
steps_lead from (n ∷ ns) =
    let number = led n.id from.id in
    let x = led (pos n.point.x) (pos from.point.x) in
    let y = led (pos n.point.y) (pos from.point.y) in
    let rest : List ℕ = steps_from n ns in
    ap (λ (v : ℤ). steps_behind v (pos from.point.x +ℤ unzigzag (zigzag (pos n.point.x -ℤ pos from.point.x))) (pos from.point.y +ℤ unzigzag (zigzag (pos n.point.y -ℤ pos from.point.y))) rest) number
    ∙ ap (λ (v : ℤ). steps_behind n.id v (pos from.point.y +ℤ unzigzag (zigzag (pos n.point.y -ℤ pos from.point.y))) rest) x
    ∙ ap (λ (v : ℤ). steps_behind n.id (pos n.point.x) v rest) y
    ∙ ap (λ (others : List Stop). stop_of n ∷ others) (steps_lead n ns)

abbrev pub numbers_of : RoadRec → List ℕ
numbers_of road = steps_from start road.nodes

stops_are : (road : RoadRec) → stops (numbers_of road) ≡ map stop_of road.nodes
stops_are road = steps_lead start road.nodes

-- the points of nodes
abbrev points : List RoadNode → List Point
points ns = map (λ (n : RoadNode). n.point) ns

locations_are : (ns : List RoadNode) → map (λ (s : Stop). s.location) (map stop_of ns) ≡ map place_of (points ns)
locations_are [] = refl
locations_are (n ∷ ns) = ap (λ (ps : List Place). place_of n.point ∷ ps) (locations_are ns)

number_tests : (ns : List RoadNode) → AllByRecursion IsRoadNode ns → AllByRecursion (λ n. is_object_number n.id ≡ true) ns
number_tests [] all = tt
number_tests (n ∷ ns) all = (le-leb (unsigned_abs n.id) (2 ^ 48) all.0.0, number_tests ns all.1)

grid_tests : (ns : List RoadNode) → AllByRecursion IsRoadNode ns → AllByRecursion (λ n. is_on_grid (place_of n.point) ≡ true) ns
grid_tests [] all = tt
grid_tests (n ∷ ns) all = (grid_test n.point all.0.1, grid_tests ns all.1)

numbers_hold : (road : RoadRec) → AllByRecursion IsRoadNode road.nodes → list_all (λ (s : Stop). is_object_number s.number) (stops (numbers_of road)) ≡ true
numbers_hold road all = ap (list_all (λ (s : Stop). is_object_number s.number)) (stops_are road) ∙ test_map stop_of (λ (s : Stop). is_object_number s.number) road.nodes (number_tests road.nodes all)

points_hold : (road : RoadRec) → AllByRecursion IsRoadNode road.nodes → 2 ≤ length road.nodes → (list_all (λ (s : Stop). is_on_grid s.location) (stops (numbers_of road)) && nat_le 2 (length (stops (numbers_of road)))) ≡ true
points_hold road all many =
    ap (λ (ss : List Stop). list_all (λ (s : Stop). is_on_grid s.location) ss && nat_le 2 (length ss)) (stops_are road)
    ∙ and_from (list_all (λ (s : Stop). is_on_grid s.location) (map stop_of road.nodes)) (nat_le 2 (length (map stop_of road.nodes)))
    (test_map stop_of (λ (s : Stop). is_on_grid s.location) road.nodes (grid_tests road.nodes all))
    (ap (nat_le 2) (length-map road.nodes stop_of) ∙ le-leb 2 (length road.nodes) many)

nodes_again : (ns : List RoadNode) → map road_node_of (map stop_of ns) ≡ ns
nodes_again [] = refl
nodes_again (n ∷ ns) = ap (λ (ms : List RoadNode). n ∷ ms) (nodes_again ns)

-- ---- its rules

direction_few : (direction : Dir) → nat_le (direction_rank direction) 2 ≡ true
direction_few Both = refl
direction_few Forward = refl
direction_few Backward = refl

direction_again : (direction : Dir) → direction_from (direction_rank direction) ≡ direction
direction_again Both = refl
direction_again Forward = refl
direction_again Backward = refl

rule_holds : (rules : List Rule) (road : RoadRec) → FitsRoad rules road → option_map_or makes_roads (slice_get rules road.rule) false ≡ true
rule_holds rules road f =
    ap (λ (r : Option Rule). option_map_or makes_roads r false) f.in_table
    ∙ and_from (shape_rank f.rule.shape == 1) (is_road f.rule.class) (eq-eqb (shape_rank f.rule.shape) 1 (ap shape_rank f.shape)) (ap is_road f.class)

value_holds : (rules : List Rule) (road : RoadRec) (text : List ℕ) → text ≡ road.value → FitsRoad rules road → is_admitted rules road.rule text ≡ true
value_holds rules road text same f =
    ap (λ (t : List ℕ). is_admitted rules road.rule t) same
    ∙ ap (λ (r : Option Rule). option_map_or (λ (r : Rule). admits r.value road.value) r true) f.in_table ∙ f.value.1

up_number : (i j : ℕ) (s : Ordering) → is_gt (ordering_then (nat_cmp i j) s) ≡ false → i ≤ j
up_number i j s up = grind (arith, nat_tests)

not_below : (a b : RoadRec) → is_gt (road_cmp a b) ≡ false → ordinal a.id ≤ ordinal b.id
not_below a b up = up_number (ordinal a.id) (ordinal b.id) _ up

abbrev the_entry : List (List ℕ) → ℕ → ℕ → ℕ → RoadRec → Entry
the_entry texts at number before road = entry_of road_class texts at number before road

rises_after : (texts : List (List ℕ)) (prev : Option Entry) (at number before : ℕ) (road : RoadRec) → number ≡ ordinal road.id → Precedes road_class texts road prev → follows ordinals_rise (prev, the_entry texts at number before road) ≡ true
rises_after texts None at number before road is p = refl
rises_after texts (Some e) at number before road is p =
    let up : p.ordinal ≤ number = subst (λ (n : ℕ). p.ordinal ≤ n) (sym is) (subst (λ (n : ℕ). n ≤ ordinal road.id) (sym p.ordinal_is) (not_below p.other road p.up)) in
    subst (λ (x : Entry). ordinals_rise x (the_entry texts at number before road) ≡ true) (sym p.is)
    (or_left (nat_le p.ordinal number) (not (is_ordinal p.ordinal && is_ordinal number)) (le-leb p.ordinal number up))

good : (rules : List Rule) (texts : List (List ℕ)) (block : Block) (prev : Option Entry) (at number before : ℕ) (road : RoadRec) → map (λ (t : Placed (List ℕ)). t.value) block.texts ≡ texts → number ≡ ordinal road.id → StandsIn road_class FitsRoad rules texts road → Precedes road_class texts road prev
    → AllHold (road_facts (without_marks rules) block (prev, the_entry texts at number before road))
good rules texts block prev at number before road same is s p =
    let f = s.suits_rules in
    let few : length block.texts ≡ length texts = sym (length-map block.texts (λ (t : Placed (List ℕ)). t.value)) ∙ ap length same in
    let way : is_way (ordinal road.id) ≡ true = eq-eqb (ordinal road.id / 2 ^ 50) 1 (kind_of_ordinal road.id f.id ∙ ap rank f.kind) in
    let object : (is_ordinal number && is_way number) ≡ true =
    ap (λ (n : ℕ). is_ordinal n && is_way n) is ∙ and_from (is_ordinal (ordinal road.id)) (is_way (ordinal road.id)) (ordinal_is road.id f.id) way in
    let known = le-leb (text_number texts road.value) (length block.texts) (subst (λ (n : ℕ). text_number texts road.value ≤ n) (sym few) s.named.0.most) in
    let value = and_from (nat_le (text_number texts road.value) (length block.texts)) (is_admitted rules road.rule (text_of block.texts (text_number texts road.value))) known
    (value_holds rules road (text_of block.texts (text_number texts road.value)) (s.named.0.again block.texts same) f) in
    (rises_after texts prev at number before road is p, (object, (refl, (rule_holds rules road f, (value, (direction_few road.dir, (numbers_hold road f.grid, (points_hold road f.grid f.count, tt))))))))

-- ---- its box and its points

grid_points : (ns : List RoadNode) → AllByRecursion IsRoadNode ns → AllByRecursion IsInGrid (points ns)
grid_points [] all = tt
grid_points (n ∷ ns) all = (all.0.1, grid_points ns all.1)

box : (ns : List RoadNode) → AllByRecursion IsRoadNode ns → IsBox (road_box ns)
box [] all = no_points
box (n ∷ ns) all = grid_of n.point (points ns) (all.0.1, grid_points ns all.1)

in_box : (ns : List RoadNode) → AllByRecursion (HoldsPoint (road_box ns)) (points ns)
in_box [] = tt
in_box (n ∷ ns) = points_of n.point (points ns)

contained : (road : RoadRec) (outer : Rect) → Holds outer (road_box road.nodes) → list_all (holds_place outer) (map (λ (s : Stop). s.location) (stops (numbers_of road))) ≡ true
contained road outer h =
    ap (λ (ss : List Stop). list_all (holds_place outer) (map (λ (s : Stop). s.location) ss)) (stops_are road)
    ∙ ap (list_all (holds_place outer)) (locations_are road.nodes) ∙ points_inside outer (road_box road.nodes) (points road.nodes) h (in_box road.nodes)

-- ---- the record again

again : (rules : List Rule) (texts : List (List ℕ)) (block : Block) (at number before : ℕ) (road : RoadRec) → map (λ (t : Placed (List ℕ)). t.value) block.texts ≡ texts → number ≡ ordinal road.id → StandsIn road_class FitsRoad rules texts road
    → road_read block (the_entry texts at number before road) ≡ road
again rules texts block at number before road same is s =
    let f = s.suits_rules in
    let value = s.named.0.again block.texts same in
    let nodes : map road_node_of (stops (numbers_of road)) ≡ road.nodes = ap (map road_node_of) (stops_are road) ∙ nodes_again road.nodes in
    let id : object_of number ≡ road.id = ap object_of is ∙ object_again road.id f.id in
    let made : Id → List ℕ → Dir → List RoadNode → RoadRec = λ id value dir nodes. record { id = id; rule = road.rule; value = value; dir = dir; nodes = nodes } in
    let written : List ℕ = text_of block.texts (text_number texts road.value) in
    let direction : Dir = direction_from (direction_rank road.dir) in
    let read : List RoadNode = map road_node_of (stops (numbers_of road)) in
    ap (λ (x : Id). made x written direction read) id
    ∙ ap (λ (x : List ℕ). made road.id x direction read) value
    ∙ ap (λ (x : Dir). made road.id road.value x read) (direction_again road.dir)
    ∙ ap (made road.id road.value road.dir) nodes

-- ---- what sound entries stand for

-- the rule of a number makes roads
pub record IsRoadRule (rules : List Rule) (number : ℕ) : Type 0 where
  pub rule : Rule
  pub there : slice_get rules number ≡ Some rule
  pub shape_is : rule.shape ≡ LineShape
  pub class_is : rule.class ≡ RoadClass

of_line : (shape : Shape) → shape_rank shape ≡ 1 → shape ≡ LineShape
of_line PointShape e = absurd (cc)
of_line LineShape e = refl
of_line AreaShape e = absurd (cc)

of_roads : (class : Class) → is_road class ≡ true → class ≡ RoadClass
of_roads MapClass e = absurd (cc)
of_roads (PoiClass category) e = absurd (cc)
of_roads RoadClass e = refl
of_roads PlaceClass e = absurd (cc)

road_rule : (rules : List Rule) (number : ℕ) → option_map_or makes_roads (slice_get rules number) false ≡ true → IsRoadRule rules number
road_rule rules number e = one (slice_get rules number) refl e
  where
    one : (r : Option Rule) → slice_get rules number ≡ r → option_map_or makes_roads r false ≡ true → IsRoadRule rules number
    one None there e = absurd (cc)
    one (Some rule) there e =
        let parts = and_parts (shape_rank rule.shape == 1) (is_road rule.class) e in
        record { rule = rule; there = there; shape_is = of_line rule.shape (eqb-true (shape_rank rule.shape) 1 parts.0); class_is = of_roads rule.class parts.1 }

nodes_good : (ss : List Stop) → list_all (λ (s : Stop). is_object_number s.number) ss ≡ true → list_all (λ (s : Stop). is_on_grid s.location) ss ≡ true → AllByRecursion IsRoadNode (map road_node_of ss)
nodes_good [] numbers grid = tt
nodes_good (s ∷ ss) numbers grid =
    let n = and_parts (is_object_number s.number) (list_all (λ (s : Stop). is_object_number s.number) ss) numbers in
    let g = and_parts (is_on_grid s.location) (list_all (λ (s : Stop). is_on_grid s.location) ss) grid in
    ((leb-true (unsigned_abs s.number) (2 ^ 48) n.0, point_in_grid s.location g.0), nodes_good ss n.1 g.1)

one_fits : (beside : Beside) (block : Block) (prev : Option Entry) (entry : Entry) (f : RoadFields) → PassUtf8 block.texts → AllHold (road_facts_of beside block (prev, entry) f) → FitsRoad beside.rules (road_record_of block entry f)
one_fits beside block prev entry f utf8 all =
    let object = and_parts (is_ordinal entry.ordinal) (is_way entry.ordinal) all.1.0 in
    let rule = road_rule beside.rules f.rule.value all.1.1.1.0 in
    let value : List ℕ = text_of block.texts f.value.value in
    let known = and_parts (nat_le f.value.value (length block.texts)) (is_admitted beside.rules f.rule.value value) all.1.1.1.1.0 in
    let ss : List Stop = stops f.triples.value in
    let points = and_parts (list_all (λ (s : Stop). is_on_grid s.location) ss) (nat_le 2 (length ss)) all.1.1.1.1.1.1.1.0 in record {
      rule = rule.rule;
      in_table = rule.there;
      class = rule.class_is;
      shape = rule.shape_is;
      id = object_good entry.ordinal object.0;
      kind = ap object_kind (eqb-true (entry.ordinal / 2 ^ 50) 1 object.1);
      value = (name_utf8 block.texts f.value.value utf8, sym (ap (λ (r : Option Rule). option_map_or (λ (r : Rule). admits r.value value) r true) rule.there) ∙ known.1);
      count = subst (λ (n : ℕ). 2 ≤ n) (sym (length-map ss road_node_of)) (leb-true 2 (length ss) points.1);
      grid = nodes_good ss all.1.1.1.1.1.1.0 points.0;
    }

-- ---- all of it

pub road_lawful : IsLawful road_class FitsRoad
road_lawful = record {
  first = not_below;
  small = λ rules road f. small_ordinal road.id f.id;
  box = λ rules road f. box road.nodes f.grid;
  utf8 = λ rules road f. (f.value.0, tt);
  few = λ road. omega arith;
  spelled = spelled;
  formed = formed;
  good = good;
  contained = λ texts at number before road outer h. contained road outer h;
  again = again;
  sound = λ beside block prev entry utf8 all. one_fits beside block prev entry (road_fields entry.fields) utf8 all;
  object = λ block entry. refl;
  marked = λ rules marks block pair mark all. (all.0, (all.1.0, (mark, all.1.1.1)));
}
