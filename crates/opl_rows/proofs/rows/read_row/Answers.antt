use Rattle.std.proofs.Common.{◌≡◌, true, ap, ◌∙◌, sym}
use Rattle.std.specs.Str.{is_utf8}
use Rattle.live_model.specs.ObjectLines.{line_of}
use Rattle.opl_rows.specs.Rows.{found_of}
use Rattle.opl_rows.proofs.Fields.{row_is}
use Rattle.opl_rows.proofs.rows.read_row.Goals as goal

pub returns-then-read : goal.returns-then-read
returns-then-read c =
    let cut = c.in-Some.ensures.cases.0 in
    let utf8 : is_utf8 c.args.bytes.now ≡ true = sym c.is_text.ensures ∙ c.if-not-is_text.false in
    ap line_of cut
    ∙ row_is c.in-Some.first.now c.in-Some.front.now c.in-Some-begin.head.rest.now c.in-Some-kind.kind c.in-Some-begin.head.object (found_of c.fields.new.row) (sym (ap is_utf8 cut) ∙ utf8)
    (sym c.in-Some-kind.ensures) c.in-Some-begin.ensures.kind c.in-Some-begin.ensures.number c.in-Some-begin.ensures.rest (rw c.if-read.true at c.in_ok-read.ensures)
