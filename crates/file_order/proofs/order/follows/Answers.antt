use Rattle.file_order.proofs.Passing.{left_first, left_next, left_none, left_told, none_of}
use Rattle.file_order.proofs.order.follows.Goals as goal

pub loop-file-init : goal.loop-file-init
loop-file-init g c = left_first _ c.args.files.now c.in-Some.after.now c.in-Some.first.now c.in-Some.ensures.cases.0 c.if-not-is_base.ensures

pub returns-in-Some-kind_after : goal.returns-in-Some-kind_after
returns-in-Some-kind_after g c =
    left_told _ c.args.files.now c.loop-file.rest.now c.in-Some-split_first.more.now c.in-Some.first.now c.loop-file.before.now c.in-Some-split_first.file.now c.kind_after.result c.in-Some-split_first.ensures.cases.0 c.kind_after.ensures
    c.in-Some-kind_after.kind c.in-Some-kind_after.is c.loop-file.invariant

pub loop-file-preserved : goal.loop-file-preserved
loop-file-preserved g c =
    left_next _ c.args.files.now c.loop-file.rest.now c.in-Some-split_first.more.now c.in-Some.first.now c.loop-file.before.now c.in-Some-split_first.file.now c.kind_after.result c.in-Some-split_first.ensures.cases.0 c.kind_after.ensures
    (none_of c.kind_after.result c.in_default-kind_after.not-Some) c.loop-file.invariant

pub returns : goal.returns
returns g c = left_none _ c.args.files.now c.loop-file.rest.now c.in-Some.first.now c.loop-file.before.now c.in_default-split_first.ensures.cases c.loop-file.invariant
