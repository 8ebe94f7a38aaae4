use Rattle.std.proofs.Common.{arith}
use Rattle.obf_wire.specs.Fields.{part_of}
use Rattle.addr_section.proofs.StraightLines.{lang_read}
use Rattle.addr_section.proofs.straight.see_last_text.Goals as goal

pub returns : goal.returns
returns c =
    lang_read (part_of c.args.window.bytes.now c.args.from c.args.window.to) c.in-Some.lang c.text_of.result (record { ordered = c.requires; within = c.args.window.within }) c.in-Some.ensures (omega arith) c.text_of.ensures.at c.text_of.ensures.text
