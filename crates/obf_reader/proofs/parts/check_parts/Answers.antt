use Rattle.std.proofs.Common.{◌≡◌, ◌∙◌, ℕ, Bool, ap}
use Rattle.std.specs.Prelude.{◌==◌, ◌||◌, not, is_some, length}
use Rattle.std.specs.List.{list_all}
use Rattle.obf_wire.specs.declared.file.FileKind.TheVariants.{BadHead, BadRules, BadConfirm, BadOrder, BadId, BadMark}
use Rattle.file_grammar.specs.BoxRules.{is_ordinal}
use Rattle.file_grammar.specs.Facts.{fact}
use Rattle.file_grammar.specs.Files.{HeadNumbers, is_head, rise_strictly, rules_in}
use Rattle.obf_reader.proofs.Asked.{asked_as, six_asked}
use Rattle.obf_reader.proofs.parts.check_parts.Goals as goal

pub returns : goal.returns
returns c parts a =
    let read = c.args.read.now in
    let level : read.head.level ≡ parts.head.value.level = ap (λ (h : HeadNumbers). h.level) a.head in
    let none : (not (read.head.level == 0) || read.marks.none) ≡ (not (parts.head.value.level == 0) || (length parts.marks.value == 0)) =
    ap (λ (n : ℕ). not (n == 0) || read.marks.none) level ∙ ap (λ (b : Bool). not (parts.head.value.level == 0) || b) a.marks.none in
    six_asked c.none-first.result c.ask.new.self c.ask-2.new.self c.ask-3.new.self c.ask-4.new.self c.ask-5.new.self c.ask-6.new.self
    (fact parts.head.at BadHead (is_head parts.head.value)) (fact parts.rules.at BadRules (is_some (rules_in parts.rules.value))) (fact parts.again.at BadConfirm (parts.again.value == parts.version))
    (fact parts.marks.at BadOrder (rise_strictly parts.marks.value)) (fact parts.marks.at BadId (list_all is_ordinal parts.marks.value))
    (fact parts.marks.at BadMark (not (parts.head.value.level == 0) || (length parts.marks.value == 0))) c.none-first.ensures
    (asked_as _ _ _ _ BadHead _ _ c.ask.ensures a.head_at (c.is_head.ensures ∙ ap is_head a.head)) (asked_as _ _ _ _ BadRules _ _ c.ask-2.ensures a.rules_at a.canonical)
    (asked_as _ _ _ _ BadConfirm _ _ c.ask-3.ensures a.again_at (ap (λ (n : ℕ). n == read.version.value) a.again ∙ ap (λ (n : ℕ). parts.again.value == n) a.version)) (asked_as _ _ _ _ BadOrder _ _ c.ask-4.ensures a.marks_at a.marks.rise)
    (asked_as _ _ _ _ BadId _ _ c.ask-5.ensures a.marks_at a.marks.ordinals) (asked_as _ _ _ _ BadMark _ _ c.ask-6.ensures a.marks_at (c.may_mark.ensures ∙ none))
