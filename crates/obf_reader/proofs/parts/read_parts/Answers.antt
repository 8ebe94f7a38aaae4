use Rattle.std.proofs.Common.{◌∙◌, ℕ, List, [], ap, sym, subst}
use Rattle.std.specs.Prelude.{is_some, unwrap_or}
use Rattle.file_grammar.specs.Files.{rules_in}
use Rattle.file_grammar.specs.Sections.{Placed}
use Rattle.obf_reader.specs.MarkLists.{IsMarksRead}
use Rattle.obf_reader.proofs.parts.read_parts.Goals as goal

pub returns-clause-parts : goal.returns-clause-parts
returns-clause-parts c fields e =
    let s = c.file_spans-spans.ensures.spread fields e in
    let list = c.list_of_marks-list.ensures.list s.marks s.marks_read in
    let marks = s.marks_are ∙ list.marks in
    record {
      parts = s.parts;
      are = s.are;
      read_are = record {
        version = s.version;
        head_at = s.head_at;
        head = c.head_numbers.ensures s.head s.head_read ∙ sym s.head_is;
        rules_at = s.rules_at;
        canonical = c.in_ok-read_rules.ensures.canonical ∙ ap (λ (text : List ℕ). is_some (rules_in text)) s.rules;
        rules = c.in_ok-read_rules.ensures.rules ∙ ap (λ (text : List ℕ). unwrap_or (rules_in text) []) s.rules;
        marks_at = sym (ap (λ (m : Placed (List ℕ)). m.at) marks);
        marks = subst (λ (ns : List ℕ). IsMarksRead c.in_ok-read_marks.field-0 ns) (sym (ap (λ (m : Placed (List ℕ)). m.value) marks)) (c.in_ok-read_marks.ensures.read list.steps list.read);
        again_at = s.again_at;
        again = s.again;
      };
      sections = s.sections;
    }
