use Rattle.std.proofs.Common.{◌≡◌, ◌∙◌, None, Ok, Result, ap, subst, sym}
use Rattle.obf_wire.specs.Windows.{range_of}
use Rattle.obf_wire.specs.declared.file.FileBreak.{FileBreak}
use Rattle.file_grammar.specs.declared.parts.Boxed.{Boxed}
use Rattle.file_grammar.specs.declared.parts.Part.TheVariants.{Block as BlockPart}
use Rattle.file_grammar.specs.Messages.{Fields, has_message}
use Rattle.file_grammar.specs.Walks.{Standing, left_in}
use Rattle.boxed_exact.proofs.RecordWalk.{IsBlockOf, block_of}
use Rattle.boxed_check.proofs.SurveyWalk.{block_counted}
use Rattle.boxed_check.proofs.surveying.count_block.Goals as goal

abbrev stands : Fields → Result Fields FileBreak
stands fields = Ok fields

pub returns-in-Some-clause-count : goal.returns-in-Some-clause-count
returns-in-Some-clause-count g c fields at block e is_block =
    let m = g.C.CheckClass in
    let b : IsBlockOf fields = block_of m.class (range_of c.args.window) fields e in
    let is = c.new-walk.ensures ∙ ap (λ (k : Boxed). record { part = BlockPart k; last = None; window = range_of c.args.window }) c.class.ensures in
    let begins : left_in c.new-walk.result ≡ stands fields = subst (λ (w : Standing). left_in w ≡ stands fields) (sym is) e in
    let next = c.in-Some.ensures.fields (has_message b.at 14 b.texts b.records) (begins ∙ ap stands b.is) in
    block_counted fields b at c.count_records.result block (c.count_records.ensures.count b.records next.3 b.are) is_block
