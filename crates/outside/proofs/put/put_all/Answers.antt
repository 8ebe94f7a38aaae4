use Rattle.std.proofs.Common.{◌≡◌, ◌-◌, take, drop, length, arith, append_assoc, take-add, take_all, length-drop}
use Rattle.outside.proofs.put.put_all.Goals as goal

pub loop-done-preserved : goal.loop-done-preserved
loop-done-preserved g c =
    let bytes = c.args.bytes.now in
    let done = c.loop-done.done in
    let n = c.in_ok-done.field-0 in
    let old = (g.K.Sink.state c.args.sink.now).received in
    let rest : take (length bytes - done) (drop done bytes) ≡ drop done bytes = take_all (length bytes - done) (drop done bytes) (omega (arith, length-drop done bytes)) in
    let bound = rw rest at c.in_ok-done.ensures.bound in
    record {
      within = omega (arith, bound, length-drop done bytes, c.loop-done.invariant.within);
      received = rw (take-add done n bytes, ← append_assoc old (take done bytes) (take n (drop done bytes)), ← c.loop-done.invariant.received) (rw rest at c.in_ok-done.ensures.received);
      faults = omega (arith, c.loop-done.invariant.faults, c.in_ok-done.ensures.cause.kept);
    }
