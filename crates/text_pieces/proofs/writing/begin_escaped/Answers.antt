use Rattle.std.proofs.Common.{arith, ◌∙◌}
use Rattle.text_pieces.proofs.EscapeRuns.{put_last, put_run}
use Rattle.text_pieces.proofs.Fronts.{front_longer}
use Rattle.text_pieces.proofs.writing.begin_escaped.Goals as goal

pub returns-then-i-rest-clause-ok : goal.returns-then-i-rest-clause-ok
returns-then-i-rest-clause-ok c =
    c.in_ok-put_bytes.ensures.ok
    ∙ put_last c.loop-out.out.items c.loop-out.rest.now _ c.escape_in-i.result c.escape_in-i.ensures.place c.if-i-rest.true c.loop-out.invariant.text

pub loop-out-preserved : goal.loop-out-preserved
loop-out-preserved c = record {
  text =
      let run = put_run c.loop-out.out.items c.loop-out.rest.now _ c.escape_in-i.result c.escape_in-i.ensures.place (omega arith) c.loop-out.invariant.text in
      rw (c.in_ok-put_escape.ensures.ok, c.in_ok-put_bytes.ensures.ok, c.behind-rest.ensures) run;
  front =
      rw (c.in_ok-put_escape.ensures.ok, c.in_ok-put_bytes.ensures.ok)
      (front_longer _ _ _ (front_longer c.args.out.now.items c.loop-out.out.items _ c.loop-out.invariant.front));
}
