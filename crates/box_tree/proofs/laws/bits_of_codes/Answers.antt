use Rattle.box_tree.proofs.Bits.{even_bits, odd_bits, all_bits}
use Rattle.box_tree.proofs.laws.bits_of_codes.Goals as goal

pub returns-clause-even : goal.returns-clause-even
returns-clause-even c = even_bits

pub returns-clause-odd : goal.returns-clause-odd
returns-clause-odd c = odd_bits

pub returns-clause-bits : goal.returns-clause-bits
returns-clause-bits c = all_bits
