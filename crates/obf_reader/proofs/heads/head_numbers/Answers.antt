use Rattle.std.proofs.Common.{◌≡◌, None, Ok, Result, sym, ap, subst, ◌∙◌}
use Rattle.obf_wire.specs.Fields.{Window}
use Rattle.file_grammar.specs.declared.parts.Part.TheVariants.{Head}
use Rattle.file_grammar.specs.Files.{head_in}
use Rattle.file_grammar.specs.Messages.{Fields, has_number}
use Rattle.file_grammar.specs.Walks.{Standing, left_in}
use Rattle.obf_wire.specs.declared.file.FileBreak.{FileBreak}
use Rattle.file_grammar.proofs.Shaped.{shaped}
use Rattle.obf_reader.proofs.FileShape.{IsHeadShape, head_shape, same_head}
use Rattle.obf_reader.proofs.heads.head_numbers.Goals as goal

abbrev at_start : Window → Standing
at_start w = record { part = Head; last = None; window = w }

abbrev stands : Fields → Result Fields FileBreak
stands fields = Ok fields

pub returns : goal.returns
returns c inner e =
    let s : IsHeadShape inner = head_shape inner (shaped Head (record { bytes = c.args.bytes.now; place = c.args.head.from; end = c.args.head.to }) inner e) in
    let begins : left_in c.new-walk.result ≡ stands inner = subst (λ (w : Standing). left_in w ≡ stands inner) (sym (c.new-walk.ensures ∙ ap at_start c.new.ensures.range)) e in
    let one = c.next_number-level.ensures.number s.a 8 s.level (has_number s.b 16 s.first (has_number s.c 24 s.last s.rest)) (begins ∙ ap stands s.is) in
    let two = c.next_number-first.ensures.number s.b 16 s.first (has_number s.c 24 s.last s.rest) one.2 in
    let three = c.next_number-last.ensures.number s.c 24 s.last s.rest two.2 in
    same_head c.next_number-level.result.value c.next_number-first.result.value c.next_number-last.result.value s.level s.first s.last one.1 two.1 three.1 ∙ ap head_in (sym s.is)
