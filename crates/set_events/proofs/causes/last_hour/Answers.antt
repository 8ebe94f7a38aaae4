use Rattle.std.proofs.Common.{List, sym, ap, ◌∙◌}
use Rattle.overlay_set.specs.Sets.{Entry, last_in, stamps_of}
use Rattle.published_set.proofs.Files.{last_is}
use Rattle.set_events.proofs.causes.last_hour.Goals as goal

pub returns-in-Some : goal.returns-in-Some
returns-in-Some c =
    sym (ap (λ (h : List Entry). last_in (stamps_of h)) (sym c.history.ensures.entries) ∙ last_is c.history.result.now c.in-Some.last.now (sym c.in-Some.ensures.value))
