use Rattle.opl_rows.proofs.Runs.{text_starts, text_goes, text_is, shorter}
use Rattle.opl_rows.proofs.texts.text.Goals as goal

pub loop-after-init : goal.loop-after-init
loop-after-init c = text_starts c.args.tags.now c.run.new.tags c.args.bytes.now c.in_ok-rest.rest.now c.in_ok-rest.ensures.rest c.in_ok-rest.ensures.grows

pub loop-after-smaller : goal.loop-after-smaller
loop-after-smaller c =
    shorter c.loop-after.rest.now c.in-Some.after.now c.in-Some-2.behind.now c.in_ok-rest-2.rest.now c.loop-after.tags c.escape.new.tags c.in-Some.ensures (rw c.in-Some-2.is at c.in_ok-behind.ensures) c.in_ok-rest-2.ensures.rest

pub loop-after-preserved : goal.loop-after-preserved
loop-after-preserved c =
    text_goes c.args.tags.now c.loop-after.tags c.escape.new.tags c.run-in-Some.new.tags c.args.bytes.now c.loop-after.rest.now c.in-Some.after.now c.in-Some-2.behind.now c.in_ok-rest-2.rest.now
    c.in-Some.ensures (rw c.in-Some-2.is at c.in_ok-behind.ensures) c.in_ok-rest-2.ensures.rest c.in_ok-rest-2.ensures.grows c.loop-after.invariant

pub returns : goal.returns
returns c = text_is c.args.tags.now c.loop-after.tags c.args.bytes.now c.loop-after.rest.now c.in_default.ensures c.loop-after.invariant
