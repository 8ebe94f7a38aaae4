-- A map record, field by field.
use Rattle.std.proofs.Common.{◌≡◌, ℕ, ◌+◌, Bool, true, length, Option, Some, None, Result, Ok, refl, sym, ap, subst, ◌∙◌, arith}
use Rattle.std.specs.Prelude.{◌&&◌, nat_le}
use Rattle.std.specs.Option.{option_map}
use Rattle.live_model.specs.declared.points.Rect.{Rect}
use Rattle.coord_delta.specs.Steps.{places}
use Rattle.obf_wire.specs.declared.field.Field.{Field}
use Rattle.obf_wire.specs.declared.file.FileBreak.{FileBreak}
use Rattle.obf_wire.specs.Fields.{Window, IsWindow}
use Rattle.obf_wire.specs.KnownKeys.{StandsFirst}
use Rattle.file_grammar.specs.declared.parts.Boxed.TheVariants.{Map}
use Rattle.file_grammar.specs.declared.parts.Group.TheVariants.{Pair}
use Rattle.file_grammar.specs.declared.parts.Part.TheVariants.{Record}
use Rattle.file_grammar.specs.BoxRules.{Beside, follows}
use Rattle.file_grammar.specs.MapRules.{entries_rise, map_boxing}
use Rattle.file_grammar.specs.Messages.{Fields, ends, has_number, has_numbers}
use Rattle.file_grammar.specs.Readings.{message_from}
use Rattle.file_grammar.specs.Sections.{Entry}
use Rattle.file_grammar.proofs.Built.{ends_there, number_before, numbers_before}
use Rattle.boxed_exact.specs.declared.block_texts.BlockTexts.{BlockTexts}
use Rattle.boxed_exact.specs.Records.{IsGoodRecord, entry_of}
use Rattle.boxed_check.specs.Points.{ArePointsSeen}
use Rattle.boxed_check.proofs.NodeWalk.{window_behind}
use Rattle.map_section.specs.declared.checking.MapRead.{MapRead}
use Rattle.map_section.specs.declared.record_rules.Key.{Key}
use Rattle.map_section.specs.EntryFacts.{IsGoodMap, key_of, may_follow}
use Rattle.map_section.specs.MapReads.{IsMapRead, map_message}

abbrev at_place : Window → ℕ → Window
at_place w next = record w { place = next }

abbrev fields_ok : Fields → Result Fields FileBreak
fields_ok x = Ok x

pub read_is : (w : Window) (one two three four five : Field) → IsWindow w → StandsFirst w 8 one → StandsFirst (at_place w one.to) 16 two → StandsFirst (at_place w two.to) 24 three → StandsFirst (at_place w three.to) 32 four → StandsFirst (at_place w four.to) 42 five → five.to ≡ w.end
    → IsMapRead w (record { step = one.value; rule = two.value; shape = three.value; name = four.value; from = five.from; to = five.to })
read_is w one two three four five window r1 r2 r3 r4 r5 all =
    let w1 = window_behind w one window r1.inside in
    let w2 = window_behind (at_place w one.to) two w1 r2.inside in
    let w3 = window_behind (at_place w two.to) three w2 r3.inside in
    let w4 = window_behind (at_place w three.to) four w3 r4.inside in
    let w5 = window_behind (at_place w four.to) five w4 r5.inside in
    record {
      a = one.at;
      b = two.at;
      c = three.at;
      d = four.at;
      e = five.at;
      read = λ numbers is even.
          let s6 : message_from (Record Map) (Some 42) (at_place w five.to) ≡ fields_ok ends = ends_there (Record Map) (Some 42) (at_place w five.to) w5 (omega (arith, all)) refl in
          let s5 : message_from (Record Map) (Some 32) (at_place w four.to) ≡ fields_ok (has_numbers five.at 42 numbers ends) = numbers_before (Record Map) (Some 32) (at_place w four.to) 42 Pair five numbers ends w4 refl refl r5 is even s6 in
          let s4 : message_from (Record Map) (Some 24) (at_place w three.to) ≡ fields_ok (has_number four.at 32 four.value (has_numbers five.at 42 numbers ends)) = number_before (Record Map) (Some 24) (at_place w three.to) 32 four (has_numbers five.at 42 numbers ends) w3 refl refl r4 s5 in
          let s3 : message_from (Record Map) (Some 16) (at_place w two.to) ≡ fields_ok (has_number three.at 24 three.value (has_number four.at 32 four.value (has_numbers five.at 42 numbers ends))) = number_before (Record Map) (Some 16) (at_place w two.to) 24 three (has_number four.at 32 four.value (has_numbers five.at 42 numbers ends)) w2 refl refl r3 s4 in
          let s2 : message_from (Record Map) (Some 8) (at_place w one.to) ≡ fields_ok (has_number two.at 16 two.value (has_number three.at 24 three.value (has_number four.at 32 four.value (has_numbers five.at 42 numbers ends)))) = number_before (Record Map) (Some 8) (at_place w one.to) 16 two (has_number three.at 24 three.value (has_number four.at 32 four.value (has_numbers five.at 42 numbers ends))) w1 refl refl r2 s3 in
          number_before (Record Map) None w 8 one (has_number two.at 16 two.value (has_number three.at 24 three.value (has_number four.at 32 four.value (has_numbers five.at 42 numbers ends)))) window refl refl r1 s2;
    }

both : (a b : Bool) → a ≡ true → b ≡ true → (a && b) ≡ true
both a b p q = rw (p, q) refl

-- the order, by what it goes by
in_order : (prev : Option Entry) (entry : Entry) → may_follow (option_map key_of prev) (key_of entry) ≡ true → follows entries_rise (prev, entry) ≡ true
in_order None entry h = h
in_order (Some before) entry h = h

pub record_is : (beside : Beside) (holder : Rect) (before : Option Key) (texts : BlockTexts) (from at count ordinal : ℕ) (w : Window) (r : MapRead) (key : Key) → IsMapRead w r → ArePointsSeen (record { bytes = w.bytes; place = r.from; end = r.to }) holder count
    → ordinal ≡ from + r.step → key ≡ record { ordinal = ordinal; rule = r.rule } → IsGoodMap beside texts.count before key r.shape r.name count → IsGoodRecord Map map_boxing key_of beside holder before texts from at w ordinal key
record_is beside holder before texts from at count ordinal w r key read points is_ordinal is_key good =
    let fields : Fields = map_message read.a read.b read.c read.d read.e r.step r.rule r.shape r.name points.numbers in
    let made : ℕ → Key = λ o. record { ordinal = o; rule = r.rule } in
    let here : key ≡ key_of (entry_of from at fields) = is_key ∙ ap made is_ordinal in
    let counted : count ≡ length (places points.numbers) = omega (arith, points.count_is) in
    let g : IsGoodMap beside texts.count before (key_of (entry_of from at fields)) r.shape r.name (length (places points.numbers)) = subst (IsGoodMap beside texts.count before (key_of (entry_of from at fields)) r.shape r.name) counted (subst (λ (k : Key). IsGoodMap beside texts.count before k r.shape r.name count) here good) in
    record {
      fields = fields;
      read = read.read points.numbers points.read points.pairs;
      ordinal_is = is_ordinal;
      key_is = here;
      facts = λ block prev held is_before. (
        in_order prev (entry_of from at fields) (subst (λ (b : Option Key). may_follow b (key_of (entry_of from at fields)) ≡ true) (sym is_before) g.order),
        (g.id, (g.mark, (g.rule, (g.shape_is, (subst (λ (n : ℕ). nat_le r.name n ≡ true) (sym held.count) g.name_is, (both _ _ points.on_grid g.count_is, tt)))))),
      );
      points = points.in_box;
    }
