use Rattle.std.proofs.Common.{◌≡◌, ℕ, List, Ok, ap, sym, subst, arith}
use Rattle.obf_wire.specs.Fields.{Window, part_of}
use Rattle.obf_wire.specs.Windows.{range_of}
use Rattle.file_grammar.specs.Readings.{numbers_at}
use Rattle.obf_reader.proofs.NumberLists.{NumbersLeft, left_all, left_first, left_on}
use Rattle.obf_reader.proofs.numbers.read_numbers.Goals as goal

pub loop-number-init : goal.loop-number-init
loop-number-init c =
    let start : Window = part_of c.args.window.bytes.now c.from-at.result c.args.window.to in
    let same : range_of c.args.window ≡ start = ap (λ (at : ℕ). part_of c.args.window.bytes.now at c.args.window.to) (sym c.from-at.ensures) in
    record {
      left = λ all e. subst (λ (ns : List ℕ). NumbersLeft all ns start) (sym c.new-numbers.ensures.items) (left_first all start (subst (λ (w : Window). numbers_at w ≡ Ok all) same e));
      inside = omega (arith, c.from-at.ensures, c.args.window.ordered);
    }

pub loop-number-preserved : goal.loop-number-preserved
loop-number-preserved c = record {
  left = λ all e.
      let w : Window = record { bytes = c.args.window.bytes.now; place = c.loop-number.at; end = c.args.window.to } in
      let on = left_on all c.loop-number.numbers.items w c.in-Some.number c.in-Some.next (c.loop-number.invariant.left all e) c.in-Some.ensures.number in
      subst (λ (ns : List ℕ). NumbersLeft all ns (record { bytes = c.args.window.bytes.now; place = c.in-Some.next; end = c.args.window.to })) (sym c.in_ok-push.ensures.items) on;
  inside = c.in-Some.ensures.forward.1;
}

pub returns : goal.returns
returns c numbers e =
    left_all numbers c.loop-number.numbers.items (record { bytes = c.args.window.bytes.now; place = c.loop-number.at; end = c.args.window.to }) (c.loop-number.invariant.left numbers e) c.in_default.ensures.number
