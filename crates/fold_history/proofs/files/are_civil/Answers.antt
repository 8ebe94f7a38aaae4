use Rattle.std.proofs.Common.{subst}
use Rattle.std.specs.Prelude.{IfSome}
use Rattle.stamp_core.specs.Hours.{IsCivilHour}
use Rattle.stamp_core.specs.declared.head.Head.{Head}
use Rattle.fold_history.proofs.files.are_civil.Goals as goal

pub returns : goal.returns
returns c =
    (subst (λ (h : Head). IfSome h.first IsCivilHour) c.head-head.ensures.head c.is_hour.ensures, subst (λ (h : Head). IfSome h.last IsCivilHour) c.head-head.ensures.head c.is_hour-2.ensures)
