use Rattle.std.proofs.Common.{length, ap, ◌∙◌, sym, subst, arith}
use Rattle.opl_rows.specs.Rows.{found_of}
use Rattle.opl_rows.proofs.Fields.{GoesOn, starts, skips, reads, ends, shorter}
use Rattle.opl_rows.proofs.rows.fields.Goals as goal

pub loop-blank-init : goal.loop-blank-init
loop-blank-init c = starts c.args.kind (found_of c.args.row.now) c.args.bytes.now c.requires

pub loop-blank-preserved-then-is_end : goal.loop-blank-preserved-then-is_end
loop-blank-preserved-then-is_end c =
    skips c.args.kind (found_of c.loop-blank.row) c.in-Some.blank.now c.in-Some.more.now c.args.bytes.now (sym c.is_blank.ensures ∙ c.if-not-is_blank.false)
    (subst (λ r. GoesOn c.args.kind (found_of c.loop-blank.row) r c.args.bytes.now) c.in-Some.ensures.cases.0 c.loop-blank.invariant)

pub loop-blank-smaller : goal.loop-blank-smaller
loop-blank-smaller c =
    let read = (rw c.in-Some-2.is at c.in_ok-behind.ensures) in
    let less = shorter c.in-Some.more.now read.some in
    let rest = ap length read.rest_is in
    let cut = ap length c.in-Some.ensures.cases.0 in
    omega arith

pub loop-blank-preserved : goal.loop-blank-preserved
loop-blank-preserved c =
    reads c.args.kind (found_of c.loop-blank.row) (found_of c.field.new.row) c.in-Some.more.now c.in-Some-2.behind.now c.args.bytes.now (rw c.in-Some-2.is at c.in_ok-behind.ensures)
    (skips c.args.kind (found_of c.loop-blank.row) c.in-Some.blank.now c.in-Some.more.now c.args.bytes.now (sym c.is_blank.ensures ∙ c.if-not-is_blank.false)
    (subst (λ r. GoesOn c.args.kind (found_of c.loop-blank.row) r c.args.bytes.now) c.in-Some.ensures.cases.0 c.loop-blank.invariant))

pub returns : goal.returns
returns c = ends c.args.kind (found_of c.loop-blank.row) c.loop-blank.rest.now c.args.bytes.now c.in_default.ensures.cases c.loop-blank.invariant
