-- A point of interest, field by field.
use Rattle.std.proofs.Common.{◌≡◌, ℕ, ◌+◌, Bool, true, length, Option, Some, None, Result, Ok, refl, sym, subst, arith}
use Rattle.std.specs.Prelude.{◌&&◌, nat_le}
use Rattle.std.specs.Option.{option_map}
use Rattle.live_model.specs.declared.points.Rect.{Rect}
use Rattle.coord_delta.specs.Steps.{places}
use Rattle.obf_wire.specs.declared.field.Field.{Field}
use Rattle.obf_wire.specs.declared.file.FileBreak.{FileBreak}
use Rattle.obf_wire.specs.Fields.{Window, IsWindow}
use Rattle.obf_wire.specs.KnownKeys.{StandsFirst}
use Rattle.file_grammar.specs.declared.parts.Boxed.TheVariants.{Poi}
use Rattle.file_grammar.specs.declared.parts.Group.TheVariants.{Pair}
use Rattle.file_grammar.specs.declared.parts.Part.TheVariants.{Record}
use Rattle.file_grammar.specs.BoxRules.{Beside, follows}
use Rattle.file_grammar.specs.PoiRules.{poi_boxing}
use Rattle.file_grammar.specs.RecordRules.{ordinals_rise}
use Rattle.file_grammar.specs.Messages.{Fields, ends, has_number, has_numbers}
use Rattle.file_grammar.specs.Readings.{message_from}
use Rattle.file_grammar.specs.Sections.{Entry}
use Rattle.file_grammar.proofs.Built.{ends_there, number_before, numbers_before}
use Rattle.boxed_exact.specs.declared.block_texts.BlockTexts.{BlockTexts}
use Rattle.boxed_exact.specs.Records.{IsGoodRecord, entry_of}
use Rattle.boxed_check.specs.Points.{ArePointsSeen}
use Rattle.boxed_check.proofs.NodeWalk.{window_behind}
use Rattle.poi_section.specs.declared.checking.PoiRead.{PoiRead}
use Rattle.poi_section.specs.EntryFacts.{IsGoodPoi, may_follow, ordinal_of}
use Rattle.poi_section.specs.PoiReads.{IsPoiRead, poi_message}

abbrev at_place : Window → ℕ → Window
at_place w next = record w { place = next }

abbrev fields_ok : Fields → Result Fields FileBreak
fields_ok x = Ok x

-- three fields that stand one after another, up to the end
pub read_is : (w : Window) (one two three : Field) → IsWindow w → StandsFirst w 8 one → StandsFirst (at_place w one.to) 16 two → StandsFirst (at_place w two.to) 26 three → three.to ≡ w.end
    → IsPoiRead w (record { step = one.value; name = two.value; from = three.from; to = three.to })
read_is w one two three window r1 r2 r3 all =
    let w1 = window_behind w one window r1.inside in
    let w2 = window_behind (at_place w one.to) two w1 r2.inside in
    let w3 = window_behind (at_place w two.to) three w2 r3.inside in
    record {
      a = one.at;
      b = two.at;
      c = three.at;
      read = λ numbers is even.
          let s4 : message_from (Record Poi) (Some 26) (at_place w three.to) ≡ fields_ok ends = ends_there (Record Poi) (Some 26) (at_place w three.to) w3 (omega (arith, all)) refl in
          let s3 : message_from (Record Poi) (Some 16) (at_place w two.to) ≡ fields_ok (has_numbers three.at 26 numbers ends) = numbers_before (Record Poi) (Some 16) (at_place w two.to) 26 Pair three numbers ends w2 refl refl r3 is even s4 in
          let s2 : message_from (Record Poi) (Some 8) (at_place w one.to) ≡ fields_ok (has_number two.at 16 two.value (has_numbers three.at 26 numbers ends)) = number_before (Record Poi) (Some 8) (at_place w one.to) 16 two (has_numbers three.at 26 numbers ends) w1 refl refl r2 s3 in
          number_before (Record Poi) None w 8 one (has_number two.at 16 two.value (has_numbers three.at 26 numbers ends)) window refl refl r1 s2;
    }

both : (a b : Bool) → a ≡ true → b ≡ true → (a && b) ≡ true
both a b p q = rw (p, q) refl

-- the order, by what it goes by
in_order : (prev : Option Entry) (entry : Entry) → may_follow (option_map ordinal_of prev) entry.ordinal ≡ true → follows ordinals_rise (prev, entry) ≡ true
in_order None entry h = h
in_order (Some before) entry h = h

-- a record that was read so, and of which each rule holds
pub record_is : (beside : Beside) (holder : Rect) (before : Option ℕ) (texts : BlockTexts) (from at count ordinal : ℕ) (w : Window) (r : PoiRead) → IsPoiRead w r → ArePointsSeen (record { bytes = w.bytes; place = r.from; end = r.to }) holder count
    → ordinal ≡ from + r.step → IsGoodPoi beside texts.count before ordinal r.name count → IsGoodRecord Poi poi_boxing ordinal_of beside holder before texts from at w ordinal ordinal
record_is beside holder before texts from at count ordinal w r read points is_ordinal good =
    let fields : Fields = poi_message read.a read.b read.c r.step r.name points.numbers in
    let counted : count ≡ length (places points.numbers) = omega (arith, points.count_is) in
    let g : IsGoodPoi beside texts.count before (from + r.step) r.name (length (places points.numbers)) = subst (IsGoodPoi beside texts.count before (from + r.step) r.name) counted (subst (λ (n : ℕ). IsGoodPoi beside texts.count before n r.name count) is_ordinal good) in
    record {
      fields = fields;
      read = read.read points.numbers points.read points.pairs;
      ordinal_is = is_ordinal;
      key_is = is_ordinal;
      facts = λ block prev held is_before. (
        in_order prev (entry_of from at fields) (subst (λ (b : Option ℕ). may_follow b (from + r.step) ≡ true) (sym is_before) g.order),
        (g.id, (g.mark, (subst (λ (n : ℕ). nat_le r.name n ≡ true) (sym held.count) g.name_is, (both _ _ points.on_grid g.count_is, tt)))),
      );
      points = points.in_box;
    }
