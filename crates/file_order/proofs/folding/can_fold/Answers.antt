use Rattle.std.proofs.Common.{◌≡◌, Option, sym, ap, subst}
use Rattle.stamp_core.specs.Hours.{CivilHour}
use Rattle.stamp_core.specs.declared.head.Head.{Head}
use Rattle.file_order.proofs.Parts.{AreLeft, left_all, left_next, left_none, left_told}
use Rattle.file_order.proofs.Passing.{none_of}
use Rattle.file_order.proofs.folding.can_fold.Goals as goal

pub loop-file-init : goal.loop-file-init
loop-file-init g c = left_all _ _ c.args.files.now _ c.in-Some.first.now c.in-Some.ensures.cases.0

pub returns-in-Some-kind_in : goal.returns-in-Some-kind_in
returns-in-Some-kind_in g c =
    left_told c.args.level _ c.args.files.now c.loop-file.rest.now c.in-Some-split_first.more.now c.in-Some.first.now c.in-Some-split_first.file.now c.loop-file.last c.kind_in.result c.in-Some-split_first.ensures.cases.0 c.kind_in.ensures
    c.in-Some-kind_in.kind c.in-Some-kind_in.is c.loop-file.invariant

pub loop-file-preserved : goal.loop-file-preserved
loop-file-preserved g c =
    subst (λ (last : Option CivilHour). AreLeft c.args.level (λ f. record { head = g.F.Ordered.head_of f; rules = g.F.Ordered.rules_of f }) c.args.files.now c.in-Some-split_first.more.now c.in-Some.first.now last) (ap (λ (h : Head). h.last) (sym c.head.ensures))
    (left_next c.args.level _ c.args.files.now c.loop-file.rest.now c.in-Some-split_first.more.now c.in-Some.first.now c.in-Some-split_first.file.now c.loop-file.last c.kind_in.result c.in-Some-split_first.ensures.cases.0 c.kind_in.ensures
    (none_of c.kind_in.result c.in_default-kind_in.not-Some) c.loop-file.invariant)
