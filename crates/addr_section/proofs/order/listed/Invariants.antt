use Rattle.std.proofs.Common.{◌≡◌, ◌++◌, length}
use Rattle.std.specs.Prelude.{filter}
use Rattle.std.specs.List.{AllByRecursion}
use Rattle.boxed_write.specs.Classes.{held}
use Rattle.addr_section.specs.Packed.{is_listed}
use Rattle.addr_section.specs.Keyed.{IsKeyed, addresses_of}
use Rattle.addr_section.proofs.order.listed.Given as goal

-- the addresses so far, and those that are left
abbrev pub invariant-loop-rest : goal.invariant-loop-rest
invariant-loop-rest l = record {
  done : addresses_of l.keyed.items ++ filter (is_listed l.houses) (held l.rest) ≡ filter (is_listed l.houses) (held l.records);
  keys : AllByRecursion IsKeyed l.keyed.items;
}

abbrev pub decreases-loop-rest : goal.decreases-loop-rest
decreases-loop-rest l = length l.rest
