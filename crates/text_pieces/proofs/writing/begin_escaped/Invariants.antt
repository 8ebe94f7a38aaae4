use Rattle.std.proofs.Common.{◌≡◌, ◌++◌, length, take}
use Rattle.text_pieces.specs.Escapes.{escaped}
use Rattle.text_pieces.proofs.writing.begin_escaped.Given as goal

abbrev pub invariant-loop-out : goal.invariant-loop-out
invariant-loop-out l = record {
  text : l.out.items ++ escaped l.rest ≡ l.initial.out.items ++ escaped l.bytes;
  front : take (length l.initial.out.items) l.out.items ≡ l.initial.out.items;
}

abbrev pub decreases-loop-out : goal.decreases-loop-out
decreases-loop-out l = length l.rest
