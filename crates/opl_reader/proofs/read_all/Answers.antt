use Rattle.std.proofs.Common.{◌≡◌, ◌∷◌, false, length, rules, sym, ap, ◌∙◌, subst, arith}
use Rattle.text_pieces.specs.Lines.{lines_from}
use Rattle.live_model.specs.OplTexts.{is_skipped, object_lines_in, object_lines, break_from, text_break}
use Rattle.live_model.proofs.GoodLines.{lines_good}
use Rattle.opl_reader.specs.Readings.{IsCause}
use Rattle.opl_reader.proofs.TextSteps.{Kept, object_first, broken_row, kept_read, kept_skipped, kept_all}
use Rattle.opl_reader.proofs.read_all.Goals.{then-not-is_skipped+in_ok-add_row, else-not-is_skipped}
use Rattle.opl_reader.proofs.read_all.Goals as goal

pub loop-row-preserved : goal.loop-row-preserved
loop-row-preserved c =
    let near = c.in-Some.ensures.rest in
    let within = c.loop-row.invariant.within in
    let left : Kept (object_lines c.args.bytes.now) c.loop-row.lines.items ((c.in-Some.row.at, c.in-Some.row.bytes.now) ∷ lines_from c.in-Some.row.next c.in-Some.row.rest.now) =
    subst (Kept (object_lines c.args.bytes.now) c.loop-row.lines.items) c.in-Some.ensures.lines c.loop-row.invariant.kept
    in
    let kept : Kept (object_lines c.args.bytes.now) c.if-not-is_skipped.lines.items (lines_from c.in-Some.row.next c.in-Some.row.rest.now) =
    elim c.if-not-is_skipped.branch [
      | then-not-is_skipped+in_ok-add_row w ↦
          let line = w.in_ok-add_row.ensures.line in
          let few = w.in_ok-add_row.ensures.within in
          let ok = c.loop-row.lines.ok in
          kept_read (object_lines c.args.bytes.now) c.loop-row.lines.items c.if-not-is_skipped.lines.items line.0 (c.in-Some.row.at, c.in-Some.row.bytes.now)
          (lines_from c.in-Some.row.next c.in-Some.row.rest.now) (sym c.is_skipped.ensures ∙ w.if-not-is_skipped.true) line.1 (ap (λ v. v.items) w.lines-is ∙ line.2) (omega arith) left
      | else-not-is_skipped w ↦
          kept_skipped (object_lines c.args.bytes.now) c.loop-row.lines.items c.if-not-is_skipped.lines.items (c.in-Some.row.at, c.in-Some.row.bytes.now)
          (lines_from c.in-Some.row.next c.in-Some.row.rest.now) (sym c.is_skipped.ensures ∙ w.if-not-is_skipped.false) (ap (λ v. v.items) w.lines-is) left
    ]
    in record { kept = kept; few = kept.few; within = omega arith }

pub returns-in_err-add_row-clause-broken : goal.returns-in_err-add_row-clause-broken
unfolding text_break
returns-in_err-add_row-clause-broken c =
    let kept : is_skipped c.in-Some.row.bytes.now ≡ false = sym c.is_skipped.ensures ∙ c.if-not-is_skipped.true in
    let left : object_lines_in (lines_from c.loop-row.at c.loop-row.rest.now) ≡ (c.in-Some.row.at, c.in-Some.row.bytes.now) ∷ object_lines_in (lines_from c.in-Some.row.next c.in-Some.row.rest.now) =
    ap object_lines_in c.in-Some.ensures.lines ∙ object_first (c.in-Some.row.at, c.in-Some.row.bytes.now) (lines_from c.in-Some.row.next c.in-Some.row.rest.now) kept
    in
    let cause : IsCause c.args.bytes.now c.in_err-add_row.field-0.0 =
    broken_row c.args.bytes.now (length c.loop-row.lines.items) c.in-Some.row.at c.in-Some.row.bytes.now (object_lines_in (lines_from c.in-Some.row.next c.in-Some.row.rest.now)) c.in_err-add_row.field-0.0
    (sym (ap (break_from (length c.loop-row.lines.items)) left) ∙ c.loop-row.invariant.kept.unbroken) (rw c.loop-row.lines.ok.0 at c.in_err-add_row.ensures.broken)
    in
    search rules

pub returns-clause-lines : goal.returns-clause-lines
returns-clause-lines c =
    kept_all c.args.bytes.now c.loop-row.lines.items (lines_from c.loop-row.at c.loop-row.rest.now) c.in_default.ensures.lines c.loop-row.invariant.kept

pub returns-clause-good : goal.returns-clause-good
returns-clause-good c =
    let text = kept_all c.args.bytes.now c.loop-row.lines.items (lines_from c.loop-row.at c.loop-row.rest.now) c.in_default.ensures.lines c.loop-row.invariant.kept in
    lines_good (object_lines c.args.bytes.now) c.loop-row.lines.items text.spelled
