use Rattle.std.proofs.Common.{◌≡◌, None, Ok, Result, sym, ap, subst, ◌∙◌}
use Rattle.obf_wire.specs.declared.file.FileBreak.{FileBreak}
use Rattle.obf_wire.specs.Windows.{range_of}
use Rattle.file_grammar.specs.declared.parts.Boxed.{Boxed}
use Rattle.file_grammar.specs.declared.parts.Part.TheVariants.{Record}
use Rattle.file_grammar.specs.Messages.{Fields, has_number}
use Rattle.file_grammar.specs.Sections.{step_of}
use Rattle.file_grammar.specs.Walks.{Standing, left_in}
use Rattle.file_grammar.proofs.Shaped.{shaped}
use Rattle.boxed_read.proofs.EntryWalk.{first_number}
use Rattle.boxed_read.proofs.entries.step_in.Goals as goal

abbrev stands : Fields → Result Fields FileBreak
stands fields = Ok fields

pub returns-in-Some : goal.returns-in-Some
returns-in-Some g c fields e =
    let class = g.C.CheckClass.class in
    let s = first_number class fields (shaped (Record class) (range_of c.args.window) fields e) in
    let begins : left_in c.new-walk.result ≡ stands fields = subst (λ (w : Standing). left_in w ≡ stands fields) (sym c.new-walk.ensures)
    (subst (λ (k : Boxed). left_in (record { part = Record k; last = None; window = range_of c.args.window }) ≡ stands fields) (sym c.class.ensures) e) in
    let n = c.in-Some.ensures.fields (has_number s.at 8 s.value s.rest) (begins ∙ ap stands s.is) in
    n.2 ∙ ap step_of (sym s.is)
