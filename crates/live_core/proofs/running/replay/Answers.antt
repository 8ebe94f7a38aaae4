use Rattle.std.proofs.Common.{◌≡◌, ◌+◌, IfErr, List, [], ◌∷◌, ◌++◌, get_or, map, take, sym, ap, subst, ◌∙◌, arith}
use Rattle.std.proofs.Common.{Result, Ok, Err}
use Rattle.overlay_set.specs.Events.{event_of, reply_of}
use Rattle.overlay_set.specs.MachineLaws.{IsGoodEvent}
use Rattle.overlay_set.specs.declared.events.Event.{Event}
use Rattle.overlay_set.specs.Machines.{Reply}
use Rattle.overlay_set.specs.Machines as machines
use Rattle.live_core.specs.Running.{HasPlayed, IsNamed, Running}
use Rattle.live_core.proofs.Keeping.{map_count}
use Rattle.live_core.proofs.Playing.{all_at, map_more, map_taken, named_after, played_more}
use Rattle.live_core.proofs.running.replay.Goals as goal

pub play-requires-clause-named : goal.play-requires-clause-named
play-requires-clause-named c =
    subst (λ (e : Event). IsNamed c.loop-event.machine (event_of e)) (sym c.event-item.is)
    (named_after c.args.machine.now c.loop-event.machine (map event_of (take c.loop-event.event-index c.args.events.now)) (map reply_of c.args.replies.now.items) (map reply_of c.loop-event.replies.items)
    (event_of (get_or c.args.events.now c.loop-event.event-index c.event-item.result)) c.loop-event.invariant.0
    (all_at (IsNamed c.args.machine.now) event_of c.args.events.now c.loop-event.event-index c.event-item.result c.requires.named c.loop-event-test.true))

pub play-requires-clause-good : goal.play-requires-clause-good
play-requires-clause-good c =
    subst (λ (e : Event). IsGoodEvent (event_of e)) (sym c.event-item.is) (all_at IsGoodEvent event_of c.args.events.now c.loop-event.event-index c.event-item.result c.requires.good c.loop-event-test.true)

always : {A E : Type 0} (result : Result A E) (P : Type 0) → P → IfErr result (λ e. P)
always (Ok x) P p = tt
always (Err e) P p = p

pub returns-in_err-play-clause-begun : goal.returns-in_err-play-clause-begun
returns-in_err-play-clause-begun c =
    let first : HasPlayed c.args.machine.now (map event_of (take c.loop-event.event-index c.args.events.now)) c.play.new.machine (map reply_of c.args.replies.now.items) (map reply_of c.play.new.replies.items) =
    subst (λ (m : Running). HasPlayed c.args.machine.now (map event_of (take c.loop-event.event-index c.args.events.now)) m (map reply_of c.args.replies.now.items) (map reply_of c.play.new.replies.items))
    (sym c.in_err-play.ensures.machine)
    (subst (λ (told : List Reply). HasPlayed c.args.machine.now (map event_of (take c.loop-event.event-index c.args.events.now)) c.loop-event.machine (map reply_of c.args.replies.now.items) told)
    (sym c.in_err-play.ensures.replies) c.loop-event.invariant.0) in
    always c.from_residual.result _ (record {
      count = c.loop-event.event-index;
      fewer = omega (arith, c.loop-event-test.true, map_count event_of c.args.events.now);
      begun = subst (λ (events : List machines.Event). HasPlayed c.args.machine.now events c.play.new.machine (map reply_of c.args.replies.now.items) (map reply_of c.play.new.replies.items))
          (map_taken event_of c.loop-event.event-index c.args.events.now) first;
    })

pub loop-event-preserved : goal.loop-event-preserved
loop-event-preserved c =
    let more : map event_of (take (c.loop-event.event-index + 1) c.args.events.now) ≡ map event_of (take c.loop-event.event-index c.args.events.now) ++ event_of c.event-item.result ∷ [] =
    map_more event_of c.args.events.now c.loop-event.event-index c.event-item.result c.loop-event-test.true
    ∙ ap (λ (e : Event). map event_of (take c.loop-event.event-index c.args.events.now) ++ event_of e ∷ []) (sym c.event-item.is) in (
      subst (λ (events : List machines.Event). HasPlayed c.args.machine.now events c.play.new.machine (map reply_of c.args.replies.now.items) (map reply_of c.play.new.replies.items)) (sym more)
          (played_more c.args.machine.now c.loop-event.machine c.play.new.machine (map event_of (take c.loop-event.event-index c.args.events.now)) (event_of c.event-item.result) (map reply_of c.args.replies.now.items)
          (map reply_of c.loop-event.replies.items) (map reply_of c.play.new.replies.items) c.loop-event.invariant.0 c.in_ok-play.ensures.played),
      c.play.ensures.stands,
    )
