use Rattle.std.proofs.Common.{◌≡◌, ℕ, List, ◌∷◌, false, length, rules, sym, ap, ◌∙◌, subst, arith}
use Rattle.text_pieces.specs.Lines.{lines_from}
use Rattle.live_model.specs.OplTexts.{is_skipped, object_lines, object_lines_in}
use Rattle.line_texts.specs.Forms.{break_from, text_break}
use Rattle.line_texts.specs.Readings.{IsCause}
use Rattle.line_texts.proofs.TextSteps.{Kept, counted_first, broken_row, kept_read, kept_skipped}
use Rattle.line_texts.proofs.reading.read_lines.Goals as goal
use Rattle.line_texts.proofs.reading.read_lines.Goals.{then-not-is_skipped+in_ok-add_row, else-not-is_skipped}

pub loop-row-preserved : goal.loop-row-preserved
loop-row-preserved g c =
    let form = g.F.LineForm.form in
    let good = g.F.LineForm.is_good in
    let near = c.in-Some.ensures.rest in
    let within = c.loop-row.invariant.within in
    let all = object_lines c.args.bytes.now in
    let row : ℕ × List ℕ = (c.in-Some.row.at, c.in-Some.row.bytes.now) in
    let rows = lines_from c.in-Some.row.next c.in-Some.row.rest.now in
    let left : Kept form good all c.loop-row.items.items (row ∷ rows) = subst (Kept form good all c.loop-row.items.items) c.in-Some.ensures.lines c.loop-row.invariant.kept in
    let kept : Kept form good all c.if-not-is_skipped.items.items rows =
    elim c.if-not-is_skipped.branch [
      | then-not-is_skipped+in_ok-add_row w ↦
          let item = w.in_ok-add_row.ensures.item in
          let few = w.in_ok-add_row.ensures.within in
          let ok = c.loop-row.items.ok in
          kept_read form good g.met.F.LineForm.exact all c.loop-row.items.items c.if-not-is_skipped.items.items item.0 row rows (sym c.is_skipped.ensures ∙ w.if-not-is_skipped.true) item.1 (ap (λ v. v.items) w.items-is ∙ item.2) (omega arith) left
      | else-not-is_skipped w ↦
          kept_skipped form good all c.loop-row.items.items c.if-not-is_skipped.items.items row rows (sym c.is_skipped.ensures ∙ w.if-not-is_skipped.false) (ap (λ v. v.items) w.items-is) left
    ]
    in record { kept = kept; few = kept.few; within = omega arith }

pub returns-in_err-add_row-clause-broken : goal.returns-in_err-add_row-clause-broken
returns-in_err-add_row-clause-broken g c =
    let form = g.F.LineForm.form in
    let kept : is_skipped c.in-Some.row.bytes.now ≡ false = sym c.is_skipped.ensures ∙ c.if-not-is_skipped.true in
    let row : ℕ × List ℕ = (c.in-Some.row.at, c.in-Some.row.bytes.now) in
    let rows = lines_from c.in-Some.row.next c.in-Some.row.rest.now in
    let left : object_lines_in (lines_from c.loop-row.at c.loop-row.rest.now) ≡ row ∷ object_lines_in rows = ap object_lines_in c.in-Some.ensures.lines ∙ counted_first row rows kept in
    let cause : IsCause form c.args.bytes.now c.in_err-add_row.field-0.0 =
    broken_row form g.F.LineForm.is_good c.args.bytes.now (length c.loop-row.items.items) c.in-Some.row.at c.in-Some.row.bytes.now (object_lines_in rows) c.in_err-add_row.field-0.0
    (sym (ap (break_from form (length c.loop-row.items.items)) left) ∙ c.loop-row.invariant.kept.unbroken) (rw c.loop-row.items.ok.0 at c.in_err-add_row.ensures.broken)
    in
    search rules
