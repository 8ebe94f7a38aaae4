use Rattle.std.proofs.Common.{arith}
use Rattle.obf_wire.specs.Fields.{part_of}
use Rattle.addr_section.proofs.StraightLines.{no_lang_read}
use Rattle.addr_section.proofs.straight.see_no_lang.Goals as goal

pub returns-then-from-to : goal.returns-then-from-to
returns-then-from-to c = no_lang_read (part_of c.args.window.bytes.now c.args.from c.args.window.to) (record { ordered = c.requires; within = c.args.window.within }) (omega arith)
