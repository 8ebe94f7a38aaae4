use Rattle.std.proofs.Common.{◌+◌, ◌++◌, List, drop, length, map, refl, ap, ◌∙◌, arith}
use Rattle.std.specs.Arc.{arc_value}
use Rattle.script_text.specs.declared.steps.Step.{Step}
use Rattle.script_text.specs.declared.steps.What.{What}
use Rattle.session_text.specs.Plays.{events_from}
use Rattle.live_core.specs.Running.{after_events}
use Rattle.live_session.specs.Lines.{lines_text}
use Rattle.live_session.specs.Scripts.{publishing}
use Rattle.live_session.proofs.Played.{are_left, publications_are}
use Rattle.live_session.proofs.lines.play_lines.Goals as goal

pub loop-index-init : goal.loop-index-init
loop-index-init c = record {
  alone = c.requires.alone;
  stands = c.requires.stands;
  count = omega (arith, publications_are c.args.steps.now, c.requires.count);
  machine = refl;
  text = refl;
}

pub play_line-requires-clause-there : goal.play_line-requires-clause-there
play_line-requires-clause-there c =
    let left = are_left c.args.steps.now c.loop-index.index c.loop-index.used (length c.args.changes.now) c.index-steps-index.result c.loop-index-test.true c.index-steps-index.is c.loop-index.invariant.count in
    left.here

pub loop-index-preserved : goal.loop-index-preserved
loop-index-preserved c =
    let changes = map arc_value c.args.changes.now in
    let rest = drop (c.loop-index.index + 1) (map (λ (s : Step). s.what) c.args.steps.now) in
    let left = are_left c.args.steps.now c.loop-index.index c.loop-index.used (length c.args.changes.now) c.index-steps-index.result c.loop-index-test.true c.index-steps-index.is c.loop-index.invariant.count in
    let played = c.in_ok-used.ensures.played in record {
      alone = c.in_ok-used.ensures.alone;
      stands = c.in_ok-used.ensures.stands;
      count = ap (λ n. n + length (publishing rest)) played.count ∙ left.after;
      machine = c.loop-index.invariant.machine ∙ ap (λ (ws : List What). after_events c.loop-index.machine (events_from (c.loop-index.index + 1) ws (drop c.loop-index.used changes))) left.whats ∙ played.machine rest;
      text = c.loop-index.invariant.text ∙ ap (λ (ws : List What). c.loop-index.out.items ++ lines_text (c.loop-index.index + 1) c.loop-index.machine ws (drop c.loop-index.used changes)) left.whats ∙ played.text rest;
    }
