use Rattle.std.proofs.Common.{◌≡◌, ◌∙◌, ℕ, None, Ok, Result, map, flat_map, length, refl, sym, ap, subst}
use Rattle.std.specs.Prelude.{nat_le, ◌&&◌}
use Rattle.obf_wire.specs.Fields.{Window, part_of}
use Rattle.obf_wire.specs.Windows.{range_of}
use Rattle.obf_wire.specs.declared.file.FileBreak.{FileBreak}
use Rattle.obf_wire.specs.declared.file.FileKind.TheVariants.{BadCount}
use Rattle.file_grammar.specs.declared.parts.Boxed.{Boxed}
use Rattle.file_grammar.specs.declared.parts.Part.TheVariants.{Block as BlockPart, Texts}
use Rattle.file_grammar.specs.BoxRules.{text_fact, with_before}
use Rattle.file_grammar.specs.Facts.{fact}
use Rattle.file_grammar.specs.Messages.{Fields}
use Rattle.file_grammar.specs.Readings.{message_at}
use Rattle.file_grammar.specs.Sections.{Block, block_with, entries_from, messages_in, texts_in}
use Rattle.file_grammar.specs.Walks.{Standing, left_in}
use Rattle.boxed_exact.specs.Sides.{beside}
use Rattle.boxed_exact.specs.Texts.{AreTexts}
use Rattle.boxed_exact.proofs.RecordWalk.{IsBlockOf, asked_is, block_asked, block_of, held_texts}
use Rattle.boxed_exact.proofs.blocks.check_block.Goals as goal

abbrev stands : Fields → Result Fields FileBreak
stands fields = Ok fields

pub returns : goal.returns
returns g c fields e =
    let m = g.C.CheckClass in
    let s : IsBlockOf fields = block_of m.class (range_of c.args.window) fields e in
    let at_class : Standing = record { part = BlockPart m.class; last = None; window = range_of c.args.window } in
    let is : c.new-walk.result ≡ at_class = c.new-walk.ensures ∙ ap (λ (k : Boxed). record { part = BlockPart k; last = None; window = range_of c.args.window }) c.class.ensures in
    let begins : left_in c.new-walk.result ≡ stands fields = subst (λ (w : Standing). left_in w ≡ stands fields) (sym is) e in
    let t = c.next_payload-texts.ensures.message s.at 14 s.texts s.records (begins ∙ ap stands s.is) in
    let held = held_texts m.class c.new-walk.result c.next_payload-texts.result.from c.next_payload-texts.result.to s.texts (ap (λ (w : Standing). w.part) is) t.1 in
    let there = ap (λ (w : Standing). part_of w.window.bytes c.next_payload-texts.result.from c.next_payload-texts.result.to) is ∙ sym c.part-range.ensures.range in
    let read = subst (λ (w : Window). message_at Texts w ≡ Ok s.texts) there held in
    let block : Block = record { at = c.args.at; texts = texts_in s.texts; entries = entries_from 0 (messages_in s.records) } in
    let held_so : AreTexts (record { window = c.part-range.result; count = c.check_texts-count.result }) (texts_in s.texts) = record {
      fields = s.texts;
      read = read;
      are = refl;
      count = sym (c.check_texts-count.ensures.counted s.texts read);
    } in
    let r = c.check_records-seen.ensures s.records t.2 s.are block held_so in
    let is_count : c.is_count.result ≡ (nat_le 1 (length block.entries) && nat_le (length block.entries) 64) =
    c.is_count.ensures ∙ ap (λ (n : ℕ). nat_le 1 n && nat_le n 64) r.count in
    record {
      block = block;
      is = ap (block_with c.args.at) s.is;
      asked =
          block_asked c.args.first.now c.check_texts-count.new.first c.check_records-seen.new.first c.ask.new.self
          (fact c.args.at BadCount (nat_le 1 (length block.entries) && nat_le (length block.entries) 64))
          (map text_fact (with_before None block.texts))
          (flat_map (m.boxing.facts (beside c.args.around.now) block) (with_before None block.entries))
          (c.check_texts-count.ensures.asked s.texts read)
          r.asked
          (asked_is c.check_records-seen.new.first c.ask.new.self c.args.at BadCount c.is_count.result (nat_le 1 (length block.entries) && nat_le (length block.entries) 64) c.ask.ensures is_count);
      in_box = r.in_box;
    }
