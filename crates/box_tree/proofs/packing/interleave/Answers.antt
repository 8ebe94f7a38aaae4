use Rattle.std.proofs.Common.{refl}
use Rattle.box_tree.proofs.Bits.{interleave_lines}
use Rattle.box_tree.proofs.packing.interleave.Goals as goal

pub returns-clause-interleave : goal.returns-clause-interleave
returns-clause-interleave c = interleave_lines c.args.number _ _ _ _ _ c.requires refl refl refl refl refl
