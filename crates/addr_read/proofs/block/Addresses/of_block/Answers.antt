use Rattle.std.proofs.Common.{ap}
use Rattle.obf_wire.specs.Windows.{range_of}
use Rattle.file_grammar.specs.Walks.{Standing}
use Rattle.addr_read.proofs.BlockWalk.{begun}
use Rattle.addr_read.proofs.block.Addresses.of_block.Goals as goal

pub invariant_of-result : goal.invariant_of-result
invariant_of-result c = (ap (λ (s : Standing). s.window.bytes) c.new.ensures, begun c.args.version (range_of c.args.window) c.new.result c.requires c.new.ensures)
