use Rattle.std.proofs.Common.{sym, ap, ◌∙◌}
use Rattle.std.specs.Arc.{arc_value}
use Rattle.obf_reader.specs.Images.{Seen}
use Rattle.stamp_core.specs.declared.head.Head.{Head}
use Rattle.published_set.proofs.Files.{hour_found}
use Rattle.published_set.proofs.periods.hour_at.Goals as goal

pub returns-in-Some : goal.returns-in-Some
returns-in-Some c =
    let found = c.in-Some.ensures.lookup in
    ap (λ (head : Head). head.first) c.head.ensures.head ∙ ap (λ (seen : Seen). seen.head.first) c.deref.ensures
    ∙ sym (hour_found arc_value c.args.images.now c.args.index c.in-Some.image.now found.3.0 found.1)
