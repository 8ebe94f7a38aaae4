use Rattle.std.proofs.Common.{◌≡◌, ℕ, List, ◌∷◌, false, length, rules, sym, ap, ◌∙◌, subst, arith}
use Rattle.text_pieces.specs.Lines.{lines_from}
use Rattle.live_model.specs.OplTexts.{is_skipped, object_lines_in}
use Rattle.live_model.specs.Rules.{rule_lines, break_from, rules_break}
use Rattle.tag_rules.specs.Readings.{IsCause}
use Rattle.tag_rules.proofs.TextSteps.{Kept, rule_first, broken_row, kept_read, kept_skipped}
use Rattle.tag_rules.proofs.reading.read_rules.Goals as goal
use Rattle.tag_rules.proofs.reading.read_rules.Goals.{then-not-is_skipped+in_ok-add_row, else-not-is_skipped}

pub loop-row-preserved : goal.loop-row-preserved
loop-row-preserved c =
    let near = c.in-Some.ensures.rest in
    let within = c.loop-row.invariant.within in
    let all = rule_lines c.args.bytes.now in
    let row : ℕ × List ℕ = (c.in-Some.row.at, c.in-Some.row.bytes.now) in
    let rows = lines_from c.in-Some.row.next c.in-Some.row.rest.now in
    let left : Kept all c.loop-row.rules.items (row ∷ rows) = subst (Kept all c.loop-row.rules.items) c.in-Some.ensures.lines c.loop-row.invariant.kept in
    let kept : Kept all c.if-not-is_skipped.rules.items rows =
    elim c.if-not-is_skipped.branch [
      | then-not-is_skipped+in_ok-add_row w ↦
          let rule = w.in_ok-add_row.ensures.rule in
          let few = w.in_ok-add_row.ensures.within in
          let ok = c.loop-row.rules.ok in
          kept_read all c.loop-row.rules.items c.if-not-is_skipped.rules.items rule.0 row rows (sym c.is_skipped.ensures ∙ w.if-not-is_skipped.true) rule.1 (ap (λ v. v.items) w.rules-is ∙ rule.2) (omega arith) left
      | else-not-is_skipped w ↦
          kept_skipped all c.loop-row.rules.items c.if-not-is_skipped.rules.items row rows (sym c.is_skipped.ensures ∙ w.if-not-is_skipped.false) (ap (λ v. v.items) w.rules-is) left
    ]
    in record { kept = kept; few = kept.few; within = omega arith }

pub returns-in_err-add_row-clause-broken : goal.returns-in_err-add_row-clause-broken
unfolding rules_break
returns-in_err-add_row-clause-broken c =
    let kept : is_skipped c.in-Some.row.bytes.now ≡ false = sym c.is_skipped.ensures ∙ c.if-not-is_skipped.true in
    let row : ℕ × List ℕ = (c.in-Some.row.at, c.in-Some.row.bytes.now) in
    let rows = lines_from c.in-Some.row.next c.in-Some.row.rest.now in
    let left : object_lines_in (lines_from c.loop-row.at c.loop-row.rest.now) ≡ row ∷ object_lines_in rows = ap object_lines_in c.in-Some.ensures.lines ∙ rule_first row rows kept in
    let cause : IsCause c.args.bytes.now c.in_err-add_row.field-0.0 =
    broken_row c.args.bytes.now (length c.loop-row.rules.items) c.in-Some.row.at c.in-Some.row.bytes.now (object_lines_in rows) c.in_err-add_row.field-0.0
    (sym (ap (break_from (length c.loop-row.rules.items)) left) ∙ c.loop-row.invariant.kept.unbroken) (rw c.loop-row.rules.ok.0 at c.in_err-add_row.ensures.broken)
    in
    search rules
