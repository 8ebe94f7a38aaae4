use Rattle.std.proofs.Common.{List, sym, ap₂, ◌∙◌}
use Rattle.live_model.specs.declared.objects.Line.{Line}
use Rattle.overlay_set.specs.Sets.{State}
use Rattle.published_set.specs.Sets.{PublishedSet, rules_of}
use Rattle.set_events.proofs.Publishing.{room_brought, room_made}
use Rattle.live_core.proofs.publications.make_room.Goals as goal

pub bring-requires-clause-fits : goal.bring-requires-clause-fits
bring-requires-clause-fits c =
    (room_made (rules_of c.args.set.now) c.args.set.now.base c.args.set.now.state c.requires.standing.stands c.in-Some.work (sym c.in-Some.is ∙ c.requires.work)).fits

pub returns-in-Some-clause-set : goal.returns-in-Some-clause-set
returns-in-Some-clause-set c =
    let set : PublishedSet = c.args.set.now in
    ap₂ (λ (b : List Line) (s : State). record { base = b; state = s }) c.bring.ensures.base
    (c.bring.ensures.state ∙ room_brought (rules_of set) set.base set.state c.in-Some.work (room_made (rules_of set) set.base set.state c.requires.standing.stands c.in-Some.work (sym c.in-Some.is ∙ c.requires.work)))
