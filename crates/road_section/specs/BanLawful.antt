-- Turn restrictions as a class that keeps the laws of sections: what it shows of one record.
use Rattle.std.proofs.Common.{◌≡◌, ℕ, ◌/◌, ◌^◌, ◌<◌, ◌≤◌, true, false, List, [], ◌∷◌, ◌++◌, length, map, Option, Some, None, refl, sym, ap, subst, ◌∙◌, arith, append_assoc}
use Rattle.std.specs.Prelude.{flat_map, nat_le, ◌==◌, ◌&&◌, not, pos, negsuc, ℤ, unsigned_abs}
use Rattle.std.specs.List.{AllByRecursion, list_all}
use Rattle.std.specs.Ordering.{nat_cmp, ordering_then, is_gt}
use Rattle.std.specs.declared.cmp.Ordering.{Ordering}
use Rattle.std.proofs.lemmas.Bool.{and_from, and_parts, or_left, le-leb, eq-eqb, eqb-true, leb-true}
use Rattle.std.proofs.lemmas.Bool.Decides.{nat_tests}
use Rattle.std.proofs.lemmas.List.{append-nil, length-map}
use Rattle.live_model.specs.declared.points.Point.{Point}
use Rattle.live_model.specs.declared.points.Rect.{Rect}
use Rattle.live_model.specs.declared.rules.Rule.{Rule}
use Rattle.live_model.specs.declared.records.BanRec.{BanRec}
use Rattle.live_model.specs.Geometry.{box_of_point}
use Rattle.live_model.specs.Ids.{Id, ordinal, rank}
use Rattle.live_model.specs.Points.{IsInGrid}
use Rattle.live_model.specs.Records.{restriction_cmp}
use Rattle.live_model.specs.Fits.{FitsRestriction}
use Rattle.obf_wire.specs.Varint.{varint}
use Rattle.obf_wire.specs.Zigzag.{zigzag, unzigzag}
use Rattle.obf_wire.specs.Fields.{field_spelling, number_field, short_field}
use Rattle.coord_delta.specs.Steps.{IsNumber, Place, place_of, places, point_list}
use Rattle.coord_delta.proofs.PlaceLists.{numbers_from, numbers_lead, points_are_numbers, numbers_fit, numbers_whole, unzigzag-zigzag}
use Rattle.box_tree.specs.Trees.{Holds}
use Rattle.file_grammar.specs.declared.parts.Boxed.TheVariants.{Restriction}
use Rattle.file_grammar.specs.declared.parts.Part.TheVariants.{Record}
use Rattle.file_grammar.specs.Facts.{AllHold}
use Rattle.file_grammar.specs.Sections.{Placed, Entry, Block, text_of, object_of, object_kind}
use Rattle.file_grammar.specs.BoxRules.{Beside, follows, holds_place, is_on_grid, is_ordinal}
use Rattle.file_grammar.specs.RecordRules.{is_object_number, is_one_location, is_relation, only_point, ordinals_rise}
use Rattle.file_grammar.specs.RoadRules.{BanFields, ban_boxing, ban_facts, ban_facts_of, ban_fields, ban_read, ban_record_of}
use Rattle.boxed_write.specs.Packed.{text_number}
use Rattle.boxed_laws.specs.Bare.{Bare, no_more, a_number, some_numbers, bytes_of, AreFormed}
use Rattle.boxed_laws.specs.Classes.{BoxedClass, IsBox, StandsIn, Precedes, IsLawful, PassUtf8, without_marks, entry_of}
use Rattle.boxed_laws.proofs.BoxesAround.{grid_of, grid_test, points_inside, points_of}
use Rattle.boxed_laws.proofs.ObjectNumbers.{kind_of_ordinal, object_again, object_good, ordinal_is}
use Rattle.boxed_laws.proofs.RecordParts.{name_utf8, point_in_grid, small_ordinal}
use Rattle.road_section.specs.Restrictions.{ban_packing, ban_fields as packed_fields}

-- ---- the class

abbrev pub origin : Point
origin = record { x = 0; y = 0 }

-- the numbers that lead to the point
abbrev pub numbers_of : BanRec → List ℕ
numbers_of ban = numbers_from origin (ban.point ∷ [])

-- the fields of a restriction after its ordinal
abbrev pub ban_bare : List (List ℕ) → BanRec → Bare
ban_bare texts ban =
    a_number 16 (text_number texts ban.value) (a_number 24 (zigzag ban.from) (a_number 32 (zigzag ban.via) (a_number 40 (zigzag ban.to) (some_numbers 50 (numbers_of ban) no_more))))

abbrev pub ban_class : BoxedClass BanRec
ban_class = record { class = Restriction; packing = ban_packing; boxing = ban_boxing; reads = ban_read; bare = ban_bare }

-- a restriction fits beside any table of rules
abbrev pub FitsAnyRules : List Rule → BanRec → Type 0
FitsAnyRules rules ban = FitsRestriction ban

-- ---- its fields

five : (a b c d e f : List ℕ) → e ≡ f → a ++ (b ++ (c ++ (d ++ (e ++ [])))) ≡ a ++ (b ++ c ++ d) ++ f
five a b c d e f same =
    ap (λ (t : List ℕ). a ++ (b ++ (c ++ (d ++ t)))) (append-nil e ∙ same)
    ∙ sym (append_assoc a (b ++ c ++ d) f ∙ ap (λ (t : List ℕ). a ++ t) (append_assoc (b ++ c) d f ∙ append_assoc b c (d ++ f)))

spelled : (texts : List (List ℕ)) (ban : BanRec) → bytes_of (ban_bare texts ban) ≡ packed_fields texts ban
spelled texts ban =
    let ns : List ℕ = flat_map varint (numbers_of ban) in
    five (number_field 2 (text_number texts ban.value)) (number_field 3 (zigzag ban.from)) (number_field 4 (zigzag ban.via)) (number_field 5 (zigzag ban.to)) (field_spelling 50 (length ns) ns) (short_field 6 (point_list (ban.point ∷ [])))
    (ap (λ (payload : List ℕ). field_spelling 50 (length payload) payload) (sym (points_are_numbers origin (ban.point ∷ []))))

small_id : (z : ℤ) → unsigned_abs z ≤ 2 ^ 48 → zigzag z < 2 ^ 64
small_id (pos n) small = omega (arith, small)
small_id (negsuc n) small = omega (arith, small)

numbers_good : (p : Point) → IsInGrid p → AllByRecursion IsNumber (numbers_from origin (p ∷ []))
numbers_good p inside = numbers_fit origin (p ∷ []) (omega arith, omega arith) (inside, tt)

formed : (rules : List Rule) (texts : List (List ℕ)) (ban : BanRec) → length rules < 2 ^ 64 → length texts < 2 ^ 64 → StandsIn ban_class FitsAnyRules rules texts ban → AreFormed (Record Restriction) (Some 8) (ban_bare texts ban)
formed rules texts ban few short s =
    let f = s.suits_rules in
    let value = s.named.0.most in
    (refl, omega arith, (refl, small_id ban.from f.from, (refl, small_id ban.via f.via, (refl, small_id ban.to f.to, (refl, (numbers_whole origin (ban.point ∷ []), numbers_good ban.point f.grid), refl)))))

-- ---- its rules

locations_are : (ban : BanRec) → places (numbers_of ban) ≡ place_of ban.point ∷ []
locations_are ban = numbers_lead origin (ban.point ∷ [])

point_holds : (ban : BanRec) → IsInGrid ban.point → is_one_location (places (numbers_of ban)) ≡ true
point_holds ban inside =
    ap is_one_location (locations_are ban)
    ∙ and_from (list_all is_on_grid (place_of ban.point ∷ [])) (length (place_of ban.point ∷ []) == 1) (and_from (is_on_grid (place_of ban.point)) true (grid_test ban.point inside) refl) refl

number_holds : (z : ℤ) → unsigned_abs z ≤ 2 ^ 48 → is_object_number (unzigzag (zigzag z)) ≡ true
number_holds z small = ap is_object_number (unzigzag-zigzag z) ∙ le-leb (unsigned_abs z) (2 ^ 48) small

up_number : (i j : ℕ) (s : Ordering) → is_gt (ordering_then (nat_cmp i j) s) ≡ false → i ≤ j
up_number i j s up = grind (arith, nat_tests)

not_below : (a b : BanRec) → is_gt (restriction_cmp a b) ≡ false → ordinal a.id ≤ ordinal b.id
not_below a b up = up_number (ordinal a.id) (ordinal b.id) _ up

abbrev the_entry : List (List ℕ) → ℕ → ℕ → ℕ → BanRec → Entry
the_entry texts at number before ban = entry_of ban_class texts at number before ban

rises_after : (texts : List (List ℕ)) (prev : Option Entry) (at number before : ℕ) (ban : BanRec) → number ≡ ordinal ban.id → Precedes ban_class texts ban prev → follows ordinals_rise (prev, the_entry texts at number before ban) ≡ true
rises_after texts None at number before ban is p = refl
rises_after texts (Some e) at number before ban is p =
    let up : p.ordinal ≤ number = subst (λ (n : ℕ). p.ordinal ≤ n) (sym is) (subst (λ (n : ℕ). n ≤ ordinal ban.id) (sym p.ordinal_is) (not_below p.other ban p.up)) in
    subst (λ (x : Entry). ordinals_rise x (the_entry texts at number before ban) ≡ true) (sym p.is)
    (or_left (nat_le p.ordinal number) (not (is_ordinal p.ordinal && is_ordinal number)) (le-leb p.ordinal number up))

good : (rules : List Rule) (texts : List (List ℕ)) (block : Block) (prev : Option Entry) (at number before : ℕ) (ban : BanRec) → map (λ (t : Placed (List ℕ)). t.value) block.texts ≡ texts → number ≡ ordinal ban.id → StandsIn ban_class FitsAnyRules rules texts ban → Precedes ban_class texts ban prev
    → AllHold (ban_facts (without_marks rules) block (prev, the_entry texts at number before ban))
good rules texts block prev at number before ban same is s p =
    let f = s.suits_rules in
    let few : length block.texts ≡ length texts = sym (length-map block.texts (λ (t : Placed (List ℕ)). t.value)) ∙ ap length same in
    let kind : is_relation (ordinal ban.id) ≡ true = eq-eqb (ordinal ban.id / 2 ^ 50) 2 (kind_of_ordinal ban.id f.id ∙ ap rank f.kind) in
    let object : (is_ordinal number && is_relation number) ≡ true =
    ap (λ (n : ℕ). is_ordinal n && is_relation n) is ∙ and_from (is_ordinal (ordinal ban.id)) (is_relation (ordinal ban.id)) (ordinal_is ban.id f.id) kind in
    let known = le-leb (text_number texts ban.value) (length block.texts) (subst (λ (n : ℕ). text_number texts ban.value ≤ n) (sym few) s.named.0.most) in
    (rises_after texts prev at number before ban is p, (object, (refl, (known, (number_holds ban.from f.from, (number_holds ban.via f.via, (number_holds ban.to f.to, (point_holds ban f.grid, tt))))))))

-- ---- its box and its point

box : (p : Point) → IsInGrid p → IsBox (box_of_point p)
box p inside = grid_of p [] (inside, tt)

contained : (ban : BanRec) (outer : Rect) → Holds outer (box_of_point ban.point) → list_all (holds_place outer) (places (numbers_of ban)) ≡ true
contained ban outer h = ap (list_all (holds_place outer)) (locations_are ban) ∙ points_inside outer (box_of_point ban.point) (ban.point ∷ []) h (points_of ban.point [])

-- ---- the record again

again : (rules : List Rule) (texts : List (List ℕ)) (block : Block) (at number before : ℕ) (ban : BanRec) → map (λ (t : Placed (List ℕ)). t.value) block.texts ≡ texts → number ≡ ordinal ban.id → StandsIn ban_class FitsAnyRules rules texts ban
    → ban_read block (the_entry texts at number before ban) ≡ ban
again rules texts block at number before ban same is s =
    let f = s.suits_rules in
    let value = s.named.0.again block.texts same in
    let point : only_point (places (numbers_of ban)) ≡ ban.point = ap only_point (locations_are ban) in
    let id : object_of number ≡ ban.id = ap object_of is ∙ object_again ban.id f.id in
    let made : Id → List ℕ → ℤ → ℤ → ℤ → Point → BanRec = λ id value from via to point. record { id = id; value = value; from = from; via = via; to = to; point = point } in
    let written : List ℕ = text_of block.texts (text_number texts ban.value) in
    let read : Point = only_point (places (numbers_of ban)) in
    ap (λ (x : Id). made x written (unzigzag (zigzag ban.from)) (unzigzag (zigzag ban.via)) (unzigzag (zigzag ban.to)) read) id
    ∙ ap (λ (x : List ℕ). made ban.id x (unzigzag (zigzag ban.from)) (unzigzag (zigzag ban.via)) (unzigzag (zigzag ban.to)) read) value
    ∙ ap (λ (x : ℤ). made ban.id ban.value x (unzigzag (zigzag ban.via)) (unzigzag (zigzag ban.to)) read) (unzigzag-zigzag ban.from)
    ∙ ap (λ (x : ℤ). made ban.id ban.value ban.from x (unzigzag (zigzag ban.to)) read) (unzigzag-zigzag ban.via)
    ∙ ap (λ (x : ℤ). made ban.id ban.value ban.from ban.via x read) (unzigzag-zigzag ban.to)
    ∙ ap (made ban.id ban.value ban.from ban.via ban.to) point

-- ---- what sound entries stand for

point_good : (ps : List Place) → is_one_location ps ≡ true → IsInGrid (only_point ps)
point_good [] e = (omega arith, omega arith)
point_good (p ∷ ps) e =
    let parts = and_parts (list_all is_on_grid (p ∷ ps)) (length (p ∷ ps) == 1) e in
    point_in_grid p (and_parts (is_on_grid p) (list_all is_on_grid ps) parts.0).0

number_good : (n : ℕ) → is_object_number (unzigzag n) ≡ true → unsigned_abs (unzigzag n) ≤ 2 ^ 48
number_good n e = leb-true (unsigned_abs (unzigzag n)) (2 ^ 48) e

one_fits : (beside : Beside) (block : Block) (prev : Option Entry) (entry : Entry) (f : BanFields) → PassUtf8 block.texts → AllHold (ban_facts_of beside block (prev, entry) f) → FitsRestriction (ban_record_of block entry f)
one_fits beside block prev entry f utf8 all =
    let object = and_parts (is_ordinal entry.ordinal) (is_relation entry.ordinal) all.1.0 in record {
      id = object_good entry.ordinal object.0;
      kind = ap object_kind (eqb-true (entry.ordinal / 2 ^ 50) 2 object.1);
      value = name_utf8 block.texts f.value.value utf8;
      from = number_good f.from.value all.1.1.1.1.0;
      via = number_good f.via.value all.1.1.1.1.1.0;
      to = number_good f.to.value all.1.1.1.1.1.1.0;
      grid = point_good (places f.points.value) all.1.1.1.1.1.1.1.0;
    }

-- ---- all of it

pub ban_lawful : IsLawful ban_class FitsAnyRules
ban_lawful = record {
  first = not_below;
  small = λ rules ban f. small_ordinal ban.id f.id;
  box = λ rules ban f. box ban.point f.grid;
  utf8 = λ rules ban f. (f.value, tt);
  few = λ ban. omega arith;
  spelled = spelled;
  formed = formed;
  good = good;
  contained = λ texts at number before ban outer h. contained ban outer h;
  again = again;
  sound = λ beside block prev entry utf8 all. one_fits beside block prev entry (ban_fields entry.fields) utf8 all;
  object = λ block entry. refl;
  marked = λ rules marks block pair mark all. (all.0, (all.1.0, (mark, all.1.1.1)));
}
