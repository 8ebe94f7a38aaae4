-- Roads and restrictions, field by field.
use Rattle.std.proofs.Common.{◌≡◌, ℕ, ◌+◌, Bool, true, length, Option, Some, None, Result, Ok, refl, sym, subst, ◌∙◌, arith}
use Rattle.std.specs.Prelude.{◌&&◌, nat_le}
use Rattle.std.specs.Option.{option_map}
use Rattle.live_model.specs.declared.points.Rect.{Rect}
use Rattle.coord_delta.specs.Steps.{places}
use Rattle.obf_wire.specs.declared.field.Field.{Field}
use Rattle.obf_wire.specs.declared.file.FileBreak.{FileBreak}
use Rattle.obf_wire.specs.Fields.{Window, IsWindow}
use Rattle.obf_wire.specs.KnownKeys.{StandsFirst}
use Rattle.file_grammar.specs.declared.parts.Boxed.TheVariants.{Restriction, Road}
use Rattle.file_grammar.specs.declared.parts.Group.TheVariants.{Pair, Triple}
use Rattle.file_grammar.specs.declared.parts.Part.TheVariants.{Record}
use Rattle.file_grammar.specs.BoxRules.{Beside, follows, holds_place}
use Rattle.file_grammar.specs.Messages.{Fields, ends, has_number, has_numbers}
use Rattle.file_grammar.specs.Readings.{message_from}
use Rattle.file_grammar.specs.RecordRules.{ordinals_rise}
use Rattle.file_grammar.specs.RoadRules.{ban_boxing, road_boxing, stops}
use Rattle.file_grammar.specs.Sections.{Entry}
use Rattle.file_grammar.proofs.Built.{ends_there, number_before, numbers_before}
use Rattle.boxed_exact.specs.declared.block_texts.BlockTexts.{BlockTexts}
use Rattle.boxed_exact.specs.Records.{IsGoodRecord, entry_of}
use Rattle.boxed_check.specs.Points.{ArePointsSeen}
use Rattle.boxed_check.proofs.NodeWalk.{window_behind}
use Rattle.road_section.specs.declared.ban_checking.BanLine.{BanLine}
use Rattle.road_section.specs.declared.road_checking.RoadLine.{RoadLine}
use Rattle.road_section.specs.SeenFacts.{IsGoodBan, IsGoodRoad, key_of, may_follow}
use Rattle.road_section.specs.Stops.{AreNodesIn}
use Rattle.road_section.specs.Straight.{IsBanLine, IsRoadLine, ban_message, road_message}
use Rattle.road_section.proofs.Checked.{all_located}

abbrev at_place : Window → ℕ → Window
at_place w next = record w { place = next }

abbrev fields_ok : Fields → Result Fields FileBreak
fields_ok x = Ok x

both : (a b : Bool) → a ≡ true → b ≡ true → (a && b) ≡ true
both a b p q = rw (p, q) refl

-- the order, by what it goes by
in_order : (prev : Option Entry) (entry : Entry) → may_follow (option_map key_of prev) (key_of entry) ≡ true → follows ordinals_rise (prev, entry) ≡ true
in_order None entry h = h
in_order (Some before) entry h = h

-- ---- roads

pub road_read_is : (w : Window) (one two three four five : Field) → IsWindow w → StandsFirst w 8 one → StandsFirst (at_place w one.to) 16 two → StandsFirst (at_place w two.to) 24 three → StandsFirst (at_place w three.to) 32 four → StandsFirst (at_place w four.to) 42 five → five.to ≡ w.end
    → IsRoadLine w (record { step = one.value; rule = two.value; value = three.value; direction = four.value; start = five.from; end = five.to })
road_read_is w one two three four five window r1 r2 r3 r4 r5 all =
    let w1 = window_behind w one window r1.inside in
    let w2 = window_behind (at_place w one.to) two w1 r2.inside in
    let w3 = window_behind (at_place w two.to) three w2 r3.inside in
    let w4 = window_behind (at_place w three.to) four w3 r4.inside in
    let w5 = window_behind (at_place w four.to) five w4 r5.inside in
    record {
      a = one.at;
      b = two.at;
      c = three.at;
      d = four.at;
      e = five.at;
      read = λ numbers is whole.
          let f5 : Fields = has_numbers five.at 42 numbers ends in
          let f4 : Fields = has_number four.at 32 four.value f5 in
          let f3 : Fields = has_number three.at 24 three.value f4 in
          let f2 : Fields = has_number two.at 16 two.value f3 in
          let s6 : message_from (Record Road) (Some 42) (at_place w five.to) ≡ fields_ok ends = ends_there (Record Road) (Some 42) (at_place w five.to) w5 (omega (arith, all)) refl in
          let s5 : message_from (Record Road) (Some 32) (at_place w four.to) ≡ fields_ok f5 = numbers_before (Record Road) (Some 32) (at_place w four.to) 42 Triple five numbers ends w4 refl refl r5 is whole s6 in
          let s4 : message_from (Record Road) (Some 24) (at_place w three.to) ≡ fields_ok f4 = number_before (Record Road) (Some 24) (at_place w three.to) 32 four f5 w3 refl refl r4 s5 in
          let s3 : message_from (Record Road) (Some 16) (at_place w two.to) ≡ fields_ok f3 = number_before (Record Road) (Some 16) (at_place w two.to) 24 three f4 w2 refl refl r3 s4 in
          let s2 : message_from (Record Road) (Some 8) (at_place w one.to) ≡ fields_ok f2 = number_before (Record Road) (Some 8) (at_place w one.to) 16 two f3 w1 refl refl r2 s3 in
          number_before (Record Road) None w 8 one f2 window refl refl r1 s2;
    }

pub road_is : (beside : Beside) (holder : Rect) (before : Option ℕ) (texts : BlockTexts) (from at count ordinal : ℕ) (w : Window) (r : RoadLine) → IsRoadLine w r → AreNodesIn (record { bytes = w.bytes; place = r.start; end = r.end }) holder count
    → ordinal ≡ from + r.step → IsGoodRoad beside texts before ordinal r.rule r.value r.direction count → IsGoodRecord Road road_boxing key_of beside holder before texts from at w ordinal ordinal
road_is beside holder before texts from at count ordinal w r read nodes is_ordinal good =
    let fields : Fields = road_message read.a read.b read.c read.d read.e r.step r.rule r.value r.direction nodes.numbers in
    let here : Entry = entry_of from at fields in
    let counted : count ≡ length (stops nodes.numbers) = omega (arith, nodes.count_is) in
    let g : IsGoodRoad beside texts before here.ordinal r.rule r.value r.direction (length (stops nodes.numbers)) =
    subst (λ (n : ℕ). IsGoodRoad beside texts before here.ordinal r.rule r.value r.direction n) counted
    (subst (λ (n : ℕ). IsGoodRoad beside texts before n r.rule r.value r.direction count) is_ordinal good) in
    record {
      fields = fields;
      read = read.read nodes.numbers nodes.read nodes.triples;
      ordinal_is = is_ordinal;
      key_is = is_ordinal;
      facts = λ block prev held is_before. (
        in_order prev here (subst (λ (b : Option ℕ). may_follow b here.ordinal ≡ true) (sym is_before) g.order),
        (g.id, (g.mark, (g.rule_is, (g.value_is block.texts held, (g.direction_is, (nodes.numbered, (both _ _ nodes.on_grid g.count_is, tt))))))),
      );
      points = sym (all_located (holds_place holder) (stops nodes.numbers)) ∙ nodes.in_box;
    }

-- ---- restrictions

pub ban_read_is : (w : Window) (one two three four five six : Field) → IsWindow w → StandsFirst w 8 one → StandsFirst (at_place w one.to) 16 two → StandsFirst (at_place w two.to) 24 three → StandsFirst (at_place w three.to) 32 four → StandsFirst (at_place w four.to) 40 five
    → StandsFirst (at_place w five.to) 50 six → six.to ≡ w.end
    → IsBanLine w (record { step = one.value; value = two.value; from = three.value; via = four.value; to = five.value; start = six.from; end = six.to })
ban_read_is w one two three four five six window r1 r2 r3 r4 r5 r6 all =
    let w1 = window_behind w one window r1.inside in
    let w2 = window_behind (at_place w one.to) two w1 r2.inside in
    let w3 = window_behind (at_place w two.to) three w2 r3.inside in
    let w4 = window_behind (at_place w three.to) four w3 r4.inside in
    let w5 = window_behind (at_place w four.to) five w4 r5.inside in
    let w6 = window_behind (at_place w five.to) six w5 r6.inside in
    record {
      a = one.at;
      b = two.at;
      c = three.at;
      d = four.at;
      e = five.at;
      f = six.at;
      read = λ numbers is even.
          let f6 : Fields = has_numbers six.at 50 numbers ends in
          let f5 : Fields = has_number five.at 40 five.value f6 in
          let f4 : Fields = has_number four.at 32 four.value f5 in
          let f3 : Fields = has_number three.at 24 three.value f4 in
          let f2 : Fields = has_number two.at 16 two.value f3 in
          let s7 : message_from (Record Restriction) (Some 50) (at_place w six.to) ≡ fields_ok ends = ends_there (Record Restriction) (Some 50) (at_place w six.to) w6 (omega (arith, all)) refl in
          let s6 : message_from (Record Restriction) (Some 40) (at_place w five.to) ≡ fields_ok f6 = numbers_before (Record Restriction) (Some 40) (at_place w five.to) 50 Pair six numbers ends w5 refl refl r6 is even s7 in
          let s5 : message_from (Record Restriction) (Some 32) (at_place w four.to) ≡ fields_ok f5 = number_before (Record Restriction) (Some 32) (at_place w four.to) 40 five f6 w4 refl refl r5 s6 in
          let s4 : message_from (Record Restriction) (Some 24) (at_place w three.to) ≡ fields_ok f4 = number_before (Record Restriction) (Some 24) (at_place w three.to) 32 four f5 w3 refl refl r4 s5 in
          let s3 : message_from (Record Restriction) (Some 16) (at_place w two.to) ≡ fields_ok f3 = number_before (Record Restriction) (Some 16) (at_place w two.to) 24 three f4 w2 refl refl r3 s4 in
          let s2 : message_from (Record Restriction) (Some 8) (at_place w one.to) ≡ fields_ok f2 = number_before (Record Restriction) (Some 8) (at_place w one.to) 16 two f3 w1 refl refl r2 s3 in
          number_before (Record Restriction) None w 8 one f2 window refl refl r1 s2;
    }

pub ban_is : (beside : Beside) (holder : Rect) (before : Option ℕ) (texts : BlockTexts) (from at count ordinal : ℕ) (w : Window) (r : BanLine) → IsBanLine w r → ArePointsSeen (record { bytes = w.bytes; place = r.start; end = r.end }) holder count
    → ordinal ≡ from + r.step → IsGoodBan beside texts.count before ordinal r.value r.from r.via r.to count → IsGoodRecord Restriction ban_boxing key_of beside holder before texts from at w ordinal ordinal
ban_is beside holder before texts from at count ordinal w r read points is_ordinal good =
    let fields : Fields = ban_message read.a read.b read.c read.d read.e read.f r.step r.value r.from r.via r.to points.numbers in
    let here : Entry = entry_of from at fields in
    let counted : count ≡ length (places points.numbers) = omega (arith, points.count_is) in
    let g : IsGoodBan beside texts.count before here.ordinal r.value r.from r.via r.to (length (places points.numbers)) =
    subst (λ (n : ℕ). IsGoodBan beside texts.count before here.ordinal r.value r.from r.via r.to n) counted
    (subst (λ (n : ℕ). IsGoodBan beside texts.count before n r.value r.from r.via r.to count) is_ordinal good) in
    record {
      fields = fields;
      read = read.read points.numbers points.read points.pairs;
      ordinal_is = is_ordinal;
      key_is = is_ordinal;
      facts = λ block prev held is_before. (
        in_order prev here (subst (λ (b : Option ℕ). may_follow b here.ordinal ≡ true) (sym is_before) g.order),
        (g.id, (g.mark, (subst (λ (n : ℕ). nat_le r.value n ≡ true) (sym held.count) g.value_is, (g.from_is, (g.via_is, (g.to_is, (both _ _ points.on_grid g.count_is, tt))))))),
      );
      points = points.in_box;
    }
