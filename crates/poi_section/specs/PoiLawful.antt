-- Points of interest of one category as a class that keeps the laws of sections: what it shows of one record.
use Rattle.std.proofs.Common.{◌≡◌, ◌≢◌, ℕ, zero, suc, ◌/◌, ◌^◌, ◌<◌, ◌≤◌, true, false, List, [], ◌∷◌, ◌++◌, length, map, Option, Some, None, refl, sym, ap, subst, ◌∙◌, arith}
use Rattle.std.specs.Prelude.{flat_map, nat_le, ◌==◌, ◌&&◌, ◌||◌, not, IsTrue}
use Rattle.std.specs.List.{list_all}
use Rattle.std.specs.Ordering.{nat_cmp, ordering_then, is_gt}
use Rattle.std.specs.declared.cmp.Ordering.{Ordering}
use Rattle.std.proofs.lemmas.Bool.{and_from, and_parts, or_left, le-leb, eq-eqb}
use Rattle.std.proofs.lemmas.Bool.Decides.{nat_tests}
use Rattle.std.proofs.lemmas.List.{append-nil, length-map}
use Rattle.live_model.specs.declared.ids.Kind.{Kind}
use Rattle.live_model.specs.declared.ids.Kind.TheVariants.{Node, Way, Relation}
use Rattle.live_model.specs.declared.points.Point.{Point}
use Rattle.live_model.specs.declared.points.Rect.{Rect}
use Rattle.live_model.specs.declared.rules.Rule.{Rule}
use Rattle.live_model.specs.declared.records.PoiRec.{PoiRec}
use Rattle.live_model.specs.Geometry.{box_of_point}
use Rattle.live_model.specs.Ids.{Id, ordinal, rank}
use Rattle.live_model.specs.Points.{IsInGrid}
use Rattle.live_model.specs.Records.{poi_cmp}
use Rattle.live_model.specs.Rules.{is_category}
use Rattle.live_model.specs.Fits.{FitsPoi, IsNodeOrWay}
use Rattle.obf_wire.specs.Varint.{varint}
use Rattle.obf_wire.specs.Fields.{field_spelling, number_field}
use Rattle.coord_delta.specs.Steps.{Place, places, place_of}
use Rattle.coord_delta.proofs.PlaceLists.{numbers_from, numbers_lead, points_are_numbers, numbers_fit, numbers_whole}
use Rattle.box_tree.specs.Trees.{Holds}
use Rattle.file_grammar.specs.declared.parts.Boxed.TheVariants.{Poi}
use Rattle.file_grammar.specs.declared.parts.Part.TheVariants.{Record}
use Rattle.file_grammar.specs.Facts.{AllHold}
use Rattle.file_grammar.specs.Sections.{Placed, Entry, Block, text_of, object_of, object_kind}
use Rattle.file_grammar.specs.BoxRules.{Beside, follows, is_node, is_way, is_ordinal, is_on_grid, holds_place}
use Rattle.file_grammar.specs.RecordRules.{ordinals_rise, is_node_or_way, is_one_location, only_point}
use Rattle.file_grammar.specs.PoiRules.{PoiFields, poi_fields, poi_facts, poi_facts_of, poi_boxing, poi_record_of, poi_read}
use Rattle.boxed_write.specs.Packed.{text_number}
use Rattle.boxed_laws.specs.Bare.{Bare, no_more, a_number, some_numbers, bytes_of, AreFormed}
use Rattle.boxed_laws.specs.Classes.{BoxedClass, StandsIn, Precedes, IsLawful, PassUtf8, without_marks, entry_of}
use Rattle.boxed_laws.proofs.BoxesAround.{grid_test, grid_of, points_inside, points_of}
use Rattle.boxed_laws.proofs.ObjectNumbers.{ordinal_is, kind_of_ordinal, object_again, object_good}
use Rattle.boxed_laws.proofs.RecordParts.{name_utf8, point_in_grid, small_ordinal}
use Rattle.poi_section.specs.Packed.{poi_packing, poi_fields as packed_fields}

-- ---- the class

abbrev pub origin : Point
origin = record { x = 0; y = 0 }

-- the steps of a list of this one point
abbrev pub numbers_of : PoiRec → List ℕ
numbers_of p = numbers_from origin (p.point ∷ [])

-- the fields of a record after its ordinal
abbrev pub poi_bare : List (List ℕ) → PoiRec → Bare
poi_bare texts p = a_number 16 (text_number texts p.name) (some_numbers 26 (numbers_of p) no_more)

-- points of interest of this category
abbrev pub poi_class : List ℕ → BoxedClass PoiRec
poi_class category = record { class = Poi; packing = poi_packing; boxing = poi_boxing; reads = poi_read category; bare = poi_bare }

-- a point of interest of this category, whatever the rules
pub record FitsCategory (category : List ℕ) (rules : List Rule) (p : PoiRec) : Type 0 where
  pub fits : FitsPoi p
  pub is : p.category ≡ category

-- ---- its fields

spelled : (texts : List (List ℕ)) (p : PoiRec) → bytes_of (poi_bare texts p) ≡ packed_fields texts p
spelled texts p =
    let ns : List ℕ = flat_map varint (numbers_of p) in
    ap (λ (t : List ℕ). number_field 2 (text_number texts p.name) ++ t)
    (append-nil (field_spelling 26 (length ns) ns)
    ∙ ap (λ (payload : List ℕ). field_spelling 26 (length payload) payload) (sym (points_are_numbers origin (p.point ∷ []))))

formed : (category : List ℕ) (rules : List Rule) (texts : List (List ℕ)) (p : PoiRec) → length texts < 2 ^ 64 → StandsIn (poi_class category) (FitsCategory category) rules texts p → AreFormed (Record Poi) (Some 8) (poi_bare texts p)
formed category rules texts p short s =
    let name = s.named.0.most in
    (refl, omega arith, (refl, (numbers_whole origin (p.point ∷ []), numbers_fit origin (p.point ∷ []) (omega arith, omega arith) (s.suits_rules.fits.grid, tt)), refl))

-- ---- its rules

-- the number of the kind of a node or a way
kind_is : (kind : Kind) (n : ℕ) → IsNodeOrWay kind → n / 2 ^ 50 ≡ rank kind → is_node_or_way n ≡ true
kind_is Node n other e = or_left (is_node n) (is_way n) (eq-eqb (n / 2 ^ 50) 0 e)
kind_is Way n other e = rw (e) refl
kind_is Relation n other e = absurd (other refl)

places_are : (p : PoiRec) → places (numbers_of p) ≡ place_of p.point ∷ []
places_are p = numbers_lead origin (p.point ∷ [])

one_location : (p : PoiRec) → IsInGrid p.point → is_one_location (places (numbers_of p)) ≡ true
one_location p grid =
    ap is_one_location (places_are p)
    ∙ and_from (list_all is_on_grid (place_of p.point ∷ [])) (length (place_of p.point ∷ []) == 1) (and_from (is_on_grid (place_of p.point)) true (grid_test p.point grid) refl) refl

up_number : (i j : ℕ) (s : Ordering) → is_gt (ordering_then (nat_cmp i j) s) ≡ false → i ≤ j
up_number i j s up = grind (arith, nat_tests)

not_below : (a b : PoiRec) → is_gt (poi_cmp a b) ≡ false → ordinal a.id ≤ ordinal b.id
not_below a b up = up_number (ordinal a.id) (ordinal b.id) _ up

abbrev the_entry : List ℕ → List (List ℕ) → ℕ → ℕ → ℕ → PoiRec → Entry
the_entry category texts at number before p = entry_of (poi_class category) texts at number before p

rises_to : (i j : ℕ) → i ≤ j → (nat_le i j || not (is_ordinal i && is_ordinal j)) ≡ true
rises_to i j le = or_left (nat_le i j) (not (is_ordinal i && is_ordinal j)) (le-leb i j le)

rises_after : (category : List ℕ) (texts : List (List ℕ)) (prev : Option Entry) (at number before : ℕ) (p : PoiRec) → number ≡ ordinal p.id → Precedes (poi_class category) texts p prev
    → follows ordinals_rise (prev, the_entry category texts at number before p) ≡ true
rises_after category texts None at number before p is b = refl
rises_after category texts (Some e) at number before p is b =
    let up = not_below b.other p b.up in
    subst (λ (x : Entry). ordinals_rise x (the_entry category texts at number before p) ≡ true) (sym b.is) (rises_to b.ordinal number (omega (arith, b.ordinal_is, is, up)))

good : (category : List ℕ) (rules : List Rule) (texts : List (List ℕ)) (block : Block) (prev : Option Entry) (at number before : ℕ) (p : PoiRec) → map (λ (t : Placed (List ℕ)). t.value) block.texts ≡ texts → number ≡ ordinal p.id
    → StandsIn (poi_class category) (FitsCategory category) rules texts p → Precedes (poi_class category) texts p prev → AllHold (poi_facts (without_marks rules) block (prev, the_entry category texts at number before p))
good category rules texts block prev at number before p same is s b =
    let f = s.suits_rules.fits in
    let few : length block.texts ≡ length texts = sym (length-map block.texts (λ (t : Placed (List ℕ)). t.value)) ∙ ap length same in
    let object : (is_ordinal number && is_node_or_way number) ≡ true =
    ap (λ (n : ℕ). is_ordinal n && is_node_or_way n) is
    ∙ and_from (is_ordinal (ordinal p.id)) (is_node_or_way (ordinal p.id)) (ordinal_is p.id f.id) (kind_is p.id.kind (ordinal p.id) f.kind (kind_of_ordinal p.id f.id)) in
    let name = le-leb (text_number texts p.name) (length block.texts) (subst (λ (n : ℕ). text_number texts p.name ≤ n) (sym few) s.named.0.most) in
    (rises_after category texts prev at number before p is b, (object, (refl, (name, (one_location p f.grid, tt)))))

-- ---- its box and its point

contained : (p : PoiRec) (outer : Rect) → Holds outer (box_of_point p.point) → list_all (holds_place outer) (places (numbers_of p)) ≡ true
contained p outer h =
    ap (list_all (holds_place outer)) (places_are p) ∙ points_inside outer (box_of_point p.point) (p.point ∷ []) h (points_of p.point [])

-- ---- the record again

again : (category : List ℕ) (rules : List Rule) (texts : List (List ℕ)) (block : Block) (at number before : ℕ) (p : PoiRec) → map (λ (t : Placed (List ℕ)). t.value) block.texts ≡ texts → number ≡ ordinal p.id
    → StandsIn (poi_class category) (FitsCategory category) rules texts p → poi_read category block (the_entry category texts at number before p) ≡ p
again category rules texts block at number before p same is s =
    let f = s.suits_rules.fits in
    let name = s.named.0.again block.texts same in
    let point : only_point (places (numbers_of p)) ≡ p.point = ap only_point (places_are p) in
    let id : object_of number ≡ p.id = ap object_of is ∙ object_again p.id f.id in
    let made : Id → List ℕ → List ℕ → Point → PoiRec = λ i c n q. record { id = i; category = c; name = n; point = q } in
    ap (λ (o : Id). made o category (text_of block.texts (text_number texts p.name)) (only_point (places (numbers_of p)))) id
    ∙ ap (λ (c : List ℕ). made p.id c (text_of block.texts (text_number texts p.name)) (only_point (places (numbers_of p)))) (sym s.suits_rules.is)
    ∙ ap (λ (t : List ℕ). made p.id p.category t (only_point (places (numbers_of p)))) name
    ∙ ap (λ (q : Point). made p.id p.category p.name q) point

-- ---- what sound entries stand for

-- the only one of places that are on the grid
only_in_grid : (ps : List Place) → is_one_location ps ≡ true → IsInGrid (only_point ps)
only_in_grid [] e = (omega arith, omega arith)
only_in_grid (p ∷ ps) e =
    let all = (and_parts (list_all is_on_grid (p ∷ ps)) (length (p ∷ ps) == 1) e).0 in
    point_in_grid p (and_parts (is_on_grid p) (list_all is_on_grid ps) all).0

-- an ordinal of a node or a way is one of no relation
low_kind : (k : ℕ) → ((k == 0) || (k == 1)) ≡ true → k ≤ 1
low_kind k e = grind (arith, nat_tests)

no_relation : (k : ℕ) → ((k == 0) || (k == 1)) ≡ true → object_kind k ≢ Relation
no_relation zero e = λ no. absurd (cc)
no_relation (suc zero) e = λ no. absurd (cc)
no_relation (suc (suc k)) e = let low = low_kind (suc (suc k)) e in absurd (omega (arith, low))

one_fits : (category : List ℕ) → IsTrue (is_category category) → (beside : Beside) (block : Block) (prev : Option Entry) (entry : Entry) (f : PoiFields) → PassUtf8 block.texts → AllHold (poi_facts_of beside block (prev, entry) f)
    → FitsCategory category beside.rules (poi_record_of category block entry f)
one_fits category named beside block prev entry f utf8 all =
    let object = and_parts (is_ordinal entry.ordinal) (is_node_or_way entry.ordinal) all.1.0 in record {
      fits = record {
        id = object_good entry.ordinal object.0;
        kind = no_relation (entry.ordinal / 2 ^ 50) object.1;
        category = named;
        name = name_utf8 block.texts f.name.value utf8;
        grid = only_in_grid (places f.points.value) all.1.1.1.1.0;
      };
      is = refl;
    }

-- ---- all of it

pub poi_lawful : (category : List ℕ) → IsTrue (is_category category) → IsLawful (poi_class category) (FitsCategory category)
poi_lawful category named = record {
  first = not_below;
  small = λ rules p f. small_ordinal p.id f.fits.id;
  box = λ rules p f. grid_of p.point [] (f.fits.grid, tt);
  utf8 = λ rules p f. (f.fits.name, tt);
  few = λ p. omega arith;
  spelled = spelled;
  formed = λ rules texts p few short s. formed category rules texts p short s;
  good = good category;
  contained = λ texts at number before p outer h. contained p outer h;
  again = again category;
  sound = λ beside block prev entry utf8 all. one_fits category named beside block prev entry (poi_fields entry.fields) utf8 all;
  object = λ block entry. refl;
  marked = λ rules marks block pair mark all. (all.0, (all.1.0, (mark, all.1.1.1)));
}
