use Rattle.std.proofs.Common.{◌≡◌, ℕ, List, None, Ok, Result, sym, ap, subst, ◌∙◌}
use Rattle.obf_wire.specs.Fields.{Window}
use Rattle.file_grammar.specs.declared.parts.Part.TheVariants.{Marks}
use Rattle.file_grammar.specs.Files.{marks_in, sums_from}
use Rattle.file_grammar.specs.Messages.{Fields}
use Rattle.file_grammar.specs.Readings.{numbers_at}
use Rattle.file_grammar.specs.Sections.{placed}
use Rattle.file_grammar.specs.Walks.{Standing, left_in}
use Rattle.obf_wire.specs.declared.file.FileBreak.{FileBreak}
use Rattle.file_grammar.proofs.Shaped.{BeginsNumbers, shaped}
use Rattle.obf_reader.proofs.FileShape.{marks_shape}
use Rattle.obf_reader.proofs.spans.list_of_marks.Goals as goal

abbrev at_start : Window → Standing
at_start w = record { part = Marks; last = None; window = w }

abbrev stands : Fields → Result Fields FileBreak
stands fields = Ok fields

pub returns-clause-list : goal.returns-clause-list
returns-clause-list c inner e =
    let is-start = c.new-walk.ensures ∙ ap at_start c.new.ensures.range in
    let s : BeginsNumbers Marks 10 inner = marks_shape inner (shaped Marks (record { bytes = c.args.bytes.now; place = c.args.marks.from; end = c.args.marks.to }) inner e) in
    let begins : left_in c.new-walk.result ≡ stands inner = subst (λ (w : Standing). left_in w ≡ stands inner) (sym is-start) e in
    let list = c.next_payload.ensures.numbers s.at 10 s.values s.rest (begins ∙ ap stands s.is) in
    record {
      steps = s.values;
      marks = ap marks_in s.is ∙ ap (λ (at : ℕ). placed at (sums_from 0 s.values)) (sym list.0);
      read = subst (λ (bytes : List ℕ). numbers_at (record { bytes = bytes; place = c.next_payload.result.from; end = c.next_payload.result.to }) ≡ Ok s.values)
          (ap (λ (w : Standing). w.window.bytes) is-start) list.1;
    }
