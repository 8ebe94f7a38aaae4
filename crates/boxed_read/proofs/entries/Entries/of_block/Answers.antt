use Rattle.std.proofs.Common.{◌∙◌, None, ap, sym, subst}
use Rattle.obf_wire.specs.Fields.{Window}
use Rattle.obf_wire.specs.Windows.{range_of}
use Rattle.file_grammar.specs.declared.parts.Boxed.{Boxed}
use Rattle.file_grammar.specs.declared.parts.Part.TheVariants.{Block}
use Rattle.file_grammar.specs.Walks.{Standing}
use Rattle.boxed_read.specs.Records.{records_left}
use Rattle.boxed_read.specs.Sound.{AreSoundLeft}
use Rattle.boxed_read.proofs.BlockRead.{begun}
use Rattle.boxed_read.proofs.entries.Entries.of_block.Goals as goal

abbrev at_start : Window → Boxed → Standing
at_start w class = record { part = Block class; last = None; window = w }

pub invariant_of-result : goal.invariant_of-result
invariant_of-result g c =
    let class = g.C.CheckClass.class in
    let w = range_of c.args.window in
    let span = c.next_payload-texts.result in
    let is = c.new-walk.ensures ∙ ap (at_start w) c.class.ensures in
    let bytes = ap (λ (x : Window). x.bytes) c.part.ensures.range in
    let b = begun class g.C.CheckClass.boxing g.C.ReadClass.reads g.C.ReadClass.id_of g.met.C.ReadClass.reading c.args.group.now w c.new-walk.result c.next_payload-texts.new.walk span.at span.from span.to c.requires is c.next_payload-texts.ensures.part c.next_payload-texts.ensures.window
    c.next_payload-texts.ensures.message in (
      c.next_payload-texts.ensures.same ∙ ap (λ (s : Standing). s.window.bytes) is ∙ sym bytes,
      subst (λ (x : Window). AreSoundLeft class g.C.CheckClass.boxing x 0 c.next_payload-texts.new.walk) (sym c.part.ensures.range) b.sound,
    )

pub returns : goal.returns
returns g c =
    let class = g.C.CheckClass.class in
    let w = range_of c.args.window in
    let span = c.next_payload-texts.result in
    let is = c.new-walk.ensures ∙ ap (at_start w) c.class.ensures in
    let b = begun class g.C.CheckClass.boxing g.C.ReadClass.reads g.C.ReadClass.id_of g.met.C.ReadClass.reading c.args.group.now w c.new-walk.result c.next_payload-texts.new.walk span.at span.from span.to c.requires is c.next_payload-texts.ensures.part c.next_payload-texts.ensures.window
    c.next_payload-texts.ensures.message in
    ap (λ (x : Window). records_left class (g.C.ReadClass.reads c.args.group.now) x 0 c.next_payload-texts.new.walk) c.part.ensures.range ∙ b.same
