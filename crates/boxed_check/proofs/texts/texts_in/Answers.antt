use Rattle.std.proofs.Common.{ℕ, ◌+◌, List, [], subst, arith, rules}
use Rattle.std.specs.Prelude.{slice_range}
use Rattle.obf_wire.specs.Fields.{Window, part_of}
use Rattle.boxed_check.specs.Blocks.{IsTextBehind, TextsLeft}
use Rattle.boxed_check.proofs.BlockWalk.{texts_on, texts_end}
use Rattle.boxed_check.proofs.texts.texts_in.Goals as goal

pub loop-at-init : goal.loop-at-init
loop-at-init c = record {
  suffices = λ total l. subst (λ (at : ℕ). TextsLeft (part_of c.args.window.bytes.now at c.args.window.to) [] 0 total) c.from-at.ensures l;
  inside = omega (arith, c.from-at.ensures, c.args.window.ordered);
  few = omega arith;
}

pub loop-at-preserved : goal.loop-at-preserved
loop-at-preserved c =
    let w : Window = record { bytes = c.args.window.bytes.now; place = c.loop-at.at; end = c.args.window.to } in
    let f = c.in-Some.field in
    let text = subst (λ (bytes : List ℕ). IsTextBehind c.loop-at.before.now (slice_range bytes f.from f.to)) c.all.ensures (search rules) in
    record {
      suffices = λ total l. c.loop-at.invariant.suffices total (texts_on w c.loop-at.before.now c.in-Some.field c.loop-at.count total (record { ordered = c.loop-at.invariant.inside; within = c.args.window.within }) c.in-Some.ensures text (subst (λ (bytes : List ℕ). TextsLeft (part_of c.args.window.bytes.now f.to c.args.window.to) (slice_range bytes f.from f.to) (c.loop-at.count + 1) total) c.all.ensures l));
      inside = c.in-Some.ensures.inside.ends;
      few = omega (arith, c.loop-at.invariant.few, c.in-Some.ensures.inside.starts, c.in-Some.ensures.inside.ordered);
    }

pub returns : goal.returns
returns c =
    c.loop-at.invariant.suffices c.loop-at.count (texts_end (record { bytes = c.args.window.bytes.now; place = c.loop-at.at; end = c.args.window.to }) c.loop-at.before.now c.loop-at.count (record { ordered = c.loop-at.invariant.inside; within = c.args.window.within }) (omega arith))
