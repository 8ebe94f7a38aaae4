-- Map records as a class that keeps the laws of sections: what it shows of one record.
use Rattle.std.proofs.Common.{◌≡◌, ℕ, ◌/◌, ◌^◌, ◌<◌, ◌≤◌, true, false, List, [], ◌∷◌, ◌++◌, length, map, Option, Some, None, refl, sym, ap, subst, ◌∙◌, arith, append_assoc}
use Rattle.std.specs.Prelude.{flat_map, nat_lt, nat_le, ◌==◌, ◌&&◌, ◌||◌, not, slice_get}
use Rattle.std.specs.List.{AllByRecursion, list_all}
use Rattle.std.specs.Option.{option_map_or}
use Rattle.std.specs.Ordering.{nat_cmp, ordering_then, is_gt}
use Rattle.std.specs.declared.cmp.Ordering.{Ordering}
use Rattle.std.proofs.lemmas.Bool.{and_from, and_parts, or_left, le-leb, eq-eqb, eqb-true, leb-true}
use Rattle.std.proofs.lemmas.Bool.Decides.{nat_tests}
use Rattle.std.proofs.lemmas.List.{append-nil, length-map}
use Rattle.live_model.specs.declared.ids.Kind.{Kind}
use Rattle.live_model.specs.declared.points.Point.{Point}
use Rattle.live_model.specs.declared.points.Rect.{Rect}
use Rattle.live_model.specs.declared.shapes.Shape.{Shape}
use Rattle.live_model.specs.declared.shapes.Shape.TheVariants.{Point as PointShape, Line as LineShape, Area as AreaShape}
use Rattle.live_model.specs.declared.classes.Class.{Class}
use Rattle.live_model.specs.declared.classes.Class.TheVariants.{Map as MapClass, Poi as PoiClass, Road as RoadClass, Place as PlaceClass}
use Rattle.live_model.specs.declared.rules.Rule.{Rule}
use Rattle.live_model.specs.declared.records.MapRec.{MapRec}
use Rattle.live_model.specs.Ids.{Id, ordinal, rank}
use Rattle.live_model.specs.Points.{IsInGrid}
use Rattle.live_model.specs.Rules.{shape_rank}
use Rattle.live_model.specs.Records.{map_cmp, is_map, drawing_cmp}
use Rattle.live_model.specs.Fits.{FitsMap, IsCount, drawn_kind}
use Rattle.obf_wire.specs.Varint.{varint}
use Rattle.obf_wire.specs.Fields.{field_spelling, number_field, short_field}
use Rattle.coord_delta.specs.Steps.{Place, places, place_of, point_list}
use Rattle.coord_delta.proofs.PlaceLists.{numbers_from, numbers_lead, points_are_numbers, numbers_fit, numbers_whole}
use Rattle.box_tree.specs.Trees.{Holds}
use Rattle.file_grammar.specs.declared.parts.Boxed.TheVariants.{Map}
use Rattle.file_grammar.specs.declared.parts.Part.TheVariants.{Record}
use Rattle.file_grammar.specs.Facts.{AllHold}
use Rattle.file_grammar.specs.Sections.{Placed, Entry, Block, text_of, object_of, object_kind}
use Rattle.file_grammar.specs.BoxRules.{Beside, follows, is_ordinal, is_on_grid, holds_place}
use Rattle.file_grammar.specs.MapRules.{MapFields, map_fields, entries_rise, is_drawn_of, is_count_for, draws, map_facts, map_facts_of, map_boxing, shape_from, point_from, map_record_of}
use Rattle.boxed_write.specs.Packed.{text_number}
use Rattle.boxed_laws.specs.Bare.{Bare, no_more, a_number, some_numbers, bytes_of, AreFormed}
use Rattle.boxed_laws.specs.Classes.{BoxedClass, IsBox, StandsIn, Precedes, IsLawful, PassUtf8, without_marks, entry_of}
use Rattle.boxed_laws.proofs.BoxesAround.{HoldsPoint, points_of, no_points, grid_of, points_inside, test_map}
use Rattle.boxed_laws.proofs.ObjectNumbers.{ordinal_is, kind_of_ordinal, object_again, object_good}
use Rattle.boxed_laws.proofs.RecordParts.{found_below, grid_tests, name_utf8, points_again, points_in_grid, small_ordinal}
use Rattle.map_section.specs.Packed.{drawn_box, map_packing, map_fields as packed_fields}

-- ---- the class

abbrev pub origin : Point
origin = record { x = 0; y = 0 }

-- the record of an entry of a block
abbrev pub map_reads : Block → Entry → MapRec
map_reads block entry = map_record_of block entry (map_fields entry.fields)

-- the fields of a record after its ordinal
abbrev pub map_bare : List (List ℕ) → MapRec → Bare
map_bare texts m = a_number 16 m.rule (a_number 24 (shape_rank m.shape) (a_number 32 (text_number texts m.name) (some_numbers 42 (numbers_from origin m.points) no_more)))

abbrev pub map_class : BoxedClass MapRec
map_class = record { class = Map; packing = map_packing; boxing = map_boxing; reads = map_reads; bare = map_bare }

-- ---- its fields

four : (b c d e f : List ℕ) → e ≡ f → b ++ (c ++ (d ++ (e ++ []))) ≡ b ++ c ++ d ++ f
four b c d e f same = ap (λ (t : List ℕ). b ++ (c ++ (d ++ t))) (append-nil e ∙ same) ∙ sym (append_assoc (b ++ c) d f ∙ append_assoc b c (d ++ f))

spelled : (texts : List (List ℕ)) (m : MapRec) → bytes_of (map_bare texts m) ≡ packed_fields texts m
spelled texts m =
    let ns : List ℕ = flat_map varint (numbers_from origin m.points) in
    four (number_field 2 m.rule) (number_field 3 (shape_rank m.shape)) (number_field 4 (text_number texts m.name)) (field_spelling 42 (length ns) ns) (short_field 5 (point_list m.points))
    (ap (λ (payload : List ℕ). field_spelling 42 (length payload) payload) (sym (points_are_numbers origin m.points)))

small_shape : (shape : Shape) → shape_rank shape < 2 ^ 64
small_shape PointShape = omega arith
small_shape LineShape = omega arith
small_shape AreaShape = omega arith

formed : (rules : List Rule) (texts : List (List ℕ)) (m : MapRec) → length rules < 2 ^ 64 → length texts < 2 ^ 64 → StandsIn map_class FitsMap rules texts m → AreFormed (Record Map) (Some 8) (map_bare texts m)
formed rules texts m few short s =
    let f = s.suits_rules in
    let rule = found_below rules m.rule f.rule f.in_table in
    let name = s.named.0.most in
    (refl, omega arith, (refl, small_shape m.shape, (refl, omega arith, (refl, (numbers_whole origin m.points, numbers_fit origin m.points (omega arith, omega arith) f.grid), refl))))

-- ---- its rules

drawn_is : (shape : Shape) (kind : Kind) (n : ℕ) → kind ≡ drawn_kind shape → n / 2 ^ 50 ≡ rank kind → is_drawn_of (shape_rank shape) n ≡ true
drawn_is PointShape kind n drawn e = eq-eqb (n / 2 ^ 50) 0 (e ∙ ap rank drawn)
drawn_is LineShape kind n drawn e = eq-eqb (n / 2 ^ 50) 1 (e ∙ ap rank drawn)
drawn_is AreaShape kind n drawn e = eq-eqb (n / 2 ^ 50) 1 (e ∙ ap rank drawn)

count_is : (shape : Shape) (count : ℕ) → IsCount shape count → is_count_for (shape_rank shape) count ≡ true
count_is PointShape count good = eq-eqb count 1 good
count_is LineShape count good = le-leb 2 count good
count_is AreaShape count good = le-leb 2 count good

shape_few : (shape : Shape) → nat_le (shape_rank shape) 2 ≡ true
shape_few PointShape = refl
shape_few LineShape = refl
shape_few AreaShape = refl

shape_again : (shape : Shape) → shape_from (shape_rank shape) ≡ shape
shape_again PointShape = refl
shape_again LineShape = refl
shape_again AreaShape = refl

rule_drawn : (rules : List Rule) (m : MapRec) → FitsMap rules m → option_map_or (draws (shape_rank m.shape)) (slice_get rules m.rule) false ≡ true
rule_drawn rules m f =
    ap (λ (r : Option Rule). option_map_or (draws (shape_rank m.shape)) r false) f.in_table
    ∙ and_from (shape_rank f.rule.shape == shape_rank m.shape) (is_map f.rule.class) (eq-eqb (shape_rank f.rule.shape) (shape_rank m.shape) (ap shape_rank f.shape)) (ap is_map f.class)

-- ---- points

abbrev pub numbers_of : MapRec → List ℕ
numbers_of m = numbers_from origin m.points

places_are : (m : MapRec) → places (numbers_of m) ≡ map place_of m.points
places_are m = numbers_lead origin m.points

points_hold : (rules : List Rule) (m : MapRec) → FitsMap rules m → (list_all is_on_grid (places (numbers_of m)) && is_count_for (shape_rank m.shape) (length (places (numbers_of m)))) ≡ true
points_hold rules m f =
    ap (λ (ps : List Place). list_all is_on_grid ps && is_count_for (shape_rank m.shape) (length ps)) (places_are m)
    ∙ and_from (list_all is_on_grid (map place_of m.points)) (is_count_for (shape_rank m.shape) (length (map place_of m.points))) (test_map place_of is_on_grid m.points (grid_tests m.points f.grid))
    (ap (is_count_for (shape_rank m.shape)) (length-map m.points place_of) ∙ count_is m.shape (length m.points) f.count)

up_rises : (i j p q : ℕ) (s : Ordering) → is_gt (ordering_then (nat_cmp i j) (ordering_then (nat_cmp p q) s)) ≡ false → (nat_lt i j || ((i == j) && nat_le p q)) ≡ true
up_rises i j p q s up = grind (arith, nat_tests)

up_number : (i j : ℕ) (s : Ordering) → is_gt (ordering_then (nat_cmp i j) s) ≡ false → i ≤ j
up_number i j s up = grind (arith, nat_tests)

not_below : (a b : MapRec) → is_gt (map_cmp a b) ≡ false → ordinal a.id ≤ ordinal b.id
not_below a b up = up_number (ordinal a.id) (ordinal b.id) (ordering_then (nat_cmp a.rule b.rule) (drawing_cmp a b)) up

abbrev the_entry : List (List ℕ) → ℕ → ℕ → ℕ → MapRec → Entry
the_entry texts at number before m = entry_of map_class texts at number before m

rises_to : (texts : List (List ℕ)) (p i b at j before : ℕ) (a m : MapRec) → i ≡ ordinal a.id → j ≡ ordinal m.id → is_gt (map_cmp a m) ≡ false → entries_rise (the_entry texts p i b a) (the_entry texts at j before m) ≡ true
rises_to texts p i b at j before a m is_i is_j up =
    or_left (nat_lt i j || ((i == j) && nat_le a.rule m.rule)) (not (is_ordinal i && is_ordinal j))
    (ap (λ (n : ℕ). nat_lt n j || ((n == j) && nat_le a.rule m.rule)) is_i
    ∙ ap (λ (n : ℕ). nat_lt (ordinal a.id) n || ((ordinal a.id == n) && nat_le a.rule m.rule)) is_j
    ∙ up_rises (ordinal a.id) (ordinal m.id) a.rule m.rule (drawing_cmp a m) up)

rises_after : (texts : List (List ℕ)) (prev : Option Entry) (at number before : ℕ) (m : MapRec) → number ≡ ordinal m.id → Precedes map_class texts m prev → follows entries_rise (prev, the_entry texts at number before m) ≡ true
rises_after texts None at number before m is p = refl
rises_after texts (Some e) at number before m is p =
    subst (λ (x : Entry). entries_rise x (the_entry texts at number before m) ≡ true) (sym p.is) (rises_to texts p.at p.ordinal p.before at number before p.other m p.ordinal_is is p.up)

good : (rules : List Rule) (texts : List (List ℕ)) (block : Block) (prev : Option Entry) (at number before : ℕ) (m : MapRec) → map (λ (t : Placed (List ℕ)). t.value) block.texts ≡ texts → number ≡ ordinal m.id → StandsIn map_class FitsMap rules texts m → Precedes map_class texts m prev
    → AllHold (map_facts (without_marks rules) block (prev, the_entry texts at number before m))
good rules texts block prev at number before m same is s p =
    let f = s.suits_rules in
    let few : length block.texts ≡ length texts = sym (length-map block.texts (λ (t : Placed (List ℕ)). t.value)) ∙ ap length same in
    let object : (is_ordinal number && is_drawn_of (shape_rank m.shape) number) ≡ true =
    ap (λ (n : ℕ). is_ordinal n && is_drawn_of (shape_rank m.shape) n) is
    ∙ and_from (is_ordinal (ordinal m.id)) (is_drawn_of (shape_rank m.shape) (ordinal m.id)) (ordinal_is m.id f.id)
    (drawn_is m.shape m.id.kind (ordinal m.id) f.kind (kind_of_ordinal m.id f.id)) in
    let name = le-leb (text_number texts m.name) (length block.texts) (subst (λ (n : ℕ). text_number texts m.name ≤ n) (sym few) s.named.0.most) in
    (rises_after texts prev at number before m is p, (object, (refl, (rule_drawn rules m f, (shape_few m.shape, (name, (points_hold rules m f, tt)))))))

-- ---- its box and its points

box : (ps : List Point) → AllByRecursion IsInGrid ps → IsBox (drawn_box ps)
box [] all = no_points
box (p ∷ ps) all = grid_of p ps all

in_box : (ps : List Point) → AllByRecursion (HoldsPoint (drawn_box ps)) ps
in_box [] = tt
in_box (p ∷ ps) = points_of p ps

contained : (m : MapRec) (outer : Rect) → Holds outer (drawn_box m.points) → list_all (holds_place outer) (places (numbers_of m)) ≡ true
contained m outer h = ap (list_all (holds_place outer)) (places_are m) ∙ points_inside outer (drawn_box m.points) m.points h (in_box m.points)

-- ---- the record again

again : (rules : List Rule) (texts : List (List ℕ)) (block : Block) (at number before : ℕ) (m : MapRec) → map (λ (t : Placed (List ℕ)). t.value) block.texts ≡ texts → number ≡ ordinal m.id → StandsIn map_class FitsMap rules texts m
    → map_reads block (the_entry texts at number before m) ≡ m
again rules texts block at number before m same is s =
    let f = s.suits_rules in
    let name = s.named.0.again block.texts same in
    let points : map point_from (places (numbers_of m)) ≡ m.points = ap (map point_from) (places_are m) ∙ points_again m.points in
    let id : object_of number ≡ m.id = ap object_of is ∙ object_again m.id f.id in
    ap (λ (o : Id). record { id = o; rule = m.rule; shape = shape_from (shape_rank m.shape); name = text_of block.texts (text_number texts m.name); points = map point_from (places (numbers_of m)) }) id
    ∙ ap (λ (shape : Shape). record { id = m.id; rule = m.rule; shape = shape; name = text_of block.texts (text_number texts m.name); points = map point_from (places (numbers_of m)) }) (shape_again m.shape)
    ∙ ap (λ (t : List ℕ). record { id = m.id; rule = m.rule; shape = m.shape; name = t; points = map point_from (places (numbers_of m)) }) name
    ∙ ap (λ (ps : List Point). record { id = m.id; rule = m.rule; shape = m.shape; name = m.name; points = ps }) points

-- ---- what sound entries stand for

-- the rule of a number draws the shape
pub record IsDrawnBy (rules : List Rule) (shape number : ℕ) : Type 0 where
  pub rule : Rule
  pub there : slice_get rules number ≡ Some rule
  pub shape_is : shape_rank rule.shape ≡ shape
  pub class_is : rule.class ≡ MapClass

of_map : (class : Class) → is_map class ≡ true → class ≡ MapClass
of_map MapClass e = refl
of_map (PoiClass category) e = absurd (cc)
of_map RoadClass e = absurd (cc)
of_map PlaceClass e = absurd (cc)

pub drawn_by : (rules : List Rule) (shape number : ℕ) → option_map_or (draws shape) (slice_get rules number) false ≡ true → IsDrawnBy rules shape number
drawn_by rules shape number e = one (slice_get rules number) refl e
  where
    one : (r : Option Rule) → slice_get rules number ≡ r → option_map_or (draws shape) r false ≡ true → IsDrawnBy rules shape number
    one None there e = absurd (cc)
    one (Some rule) there e =
        let parts = and_parts (shape_rank rule.shape == shape) (is_map rule.class) e in
        record { rule = rule; there = there; shape_is = eqb-true (shape_rank rule.shape) shape parts.0; class_is = of_map rule.class parts.1 }

kind_of : (shape : Shape) (n : ℕ) → is_drawn_of (shape_rank shape) n ≡ true → object_kind (n / 2 ^ 50) ≡ drawn_kind shape
kind_of PointShape n e = ap object_kind (eqb-true (n / 2 ^ 50) 0 e)
kind_of LineShape n e = ap object_kind (eqb-true (n / 2 ^ 50) 1 e)
kind_of AreaShape n e = ap object_kind (eqb-true (n / 2 ^ 50) 1 e)

count_of : (shape : Shape) (count : ℕ) → is_count_for (shape_rank shape) count ≡ true → IsCount shape count
count_of PointShape count e = eqb-true count 1 e
count_of LineShape count e = leb-true 2 count e
count_of AreaShape count e = leb-true 2 count e

one_fits : (beside : Beside) (block : Block) (prev : Option Entry) (entry : Entry) (f : MapFields) → PassUtf8 block.texts → AllHold (map_facts_of beside block (prev, entry) f) → FitsMap beside.rules (map_record_of block entry f)
one_fits beside block prev entry f utf8 all =
    let object = and_parts (is_ordinal entry.ordinal) (is_drawn_of f.shape.value entry.ordinal) all.1.0 in
    let drawn = drawn_by beside.rules f.shape.value f.rule.value all.1.1.1.0 in
    let ps : List Place = places f.points.value in
    let points = and_parts (list_all is_on_grid ps) (is_count_for f.shape.value (length ps)) all.1.1.1.1.1.1.0 in
    let shape : drawn.rule.shape ≡ shape_from f.shape.value = sym (shape_again drawn.rule.shape) ∙ ap shape_from drawn.shape_is in
    let kind = kind_of drawn.rule.shape entry.ordinal (subst (λ (n : ℕ). is_drawn_of n entry.ordinal ≡ true) (sym drawn.shape_is) object.1) in
    let count = count_of drawn.rule.shape (length ps) (subst (λ (n : ℕ). is_count_for n (length ps) ≡ true) (sym drawn.shape_is) points.1) in record {
      rule = drawn.rule;
      in_table = drawn.there;
      class = drawn.class_is;
      shape = shape;
      id = object_good entry.ordinal object.0;
      kind = kind ∙ ap drawn_kind shape;
      name = name_utf8 block.texts f.name.value utf8;
      count = subst (λ (n : ℕ). IsCount (shape_from f.shape.value) n) (sym (length-map ps point_from)) (subst (λ (s : Shape). IsCount s (length ps)) shape count);
      grid = points_in_grid ps points.0;
    }

-- ---- all of it

pub map_lawful : IsLawful map_class FitsMap
map_lawful = record {
  first = not_below;
  small = λ rules m f. small_ordinal m.id f.id;
  box = λ rules m f. box m.points f.grid;
  utf8 = λ rules m f. (f.name, tt);
  few = λ m. omega arith;
  spelled = spelled;
  formed = formed;
  good = good;
  contained = λ texts at number before m outer h. contained m outer h;
  again = again;
  sound = λ beside block prev entry utf8 all. one_fits beside block prev entry (map_fields entry.fields) utf8 all;
  object = λ block entry. refl;
  marked = λ rules marks block pair mark all. (all.0, (all.1.0, (mark, all.1.1.1)));
}
