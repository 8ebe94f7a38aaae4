use Rattle.std.proofs.Common.{◌-◌, ◌<◌, vec_len}
use Rattle.outside.proofs.WholeLemmas.{SoFar}
use Rattle.outside.proofs.whole.read_whole.Given as goal

abbrev pub invariant-loop-bytes : goal.invariant-loop-bytes
invariant-loop-bytes g l = record {
  so_far : SoFar (g.F.Files.state l.initial.files) (g.F.Files.state l.files) l.name l.most l.bytes.items;
  room : 0 < vec_len l.buf;
}

abbrev pub decreases-loop-bytes : goal.decreases-loop-bytes
decreases-loop-bytes g l = l.most - vec_len l.bytes
