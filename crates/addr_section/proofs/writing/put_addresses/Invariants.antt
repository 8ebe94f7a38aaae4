use Rattle.std.proofs.Common.{◌≡◌, ◌++◌, length}
use Rattle.std.specs.Prelude.{flat_map}
use Rattle.std.specs.List.{AllByRecursion}
use Rattle.obf_wire.specs.Fields.{short_field}
use Rattle.addr_section.specs.Packed.{address_bytes}
use Rattle.addr_section.specs.Keyed.{IsKeyed, addresses_of}
use Rattle.addr_section.proofs.writing.put_addresses.Given as goal

-- what is still to be appended, and that its keys are those of its names
abbrev pub invariant-loop-rest : goal.invariant-loop-rest
invariant-loop-rest l = record {
  done : l.out ++ flat_map (λ a. short_field 1 (address_bytes a)) (addresses_of l.rest) ≡ l.initial.out ++ flat_map (λ a. short_field 1 (address_bytes a)) (addresses_of l.keyed);
  keys : AllByRecursion IsKeyed l.rest;
}

abbrev pub decreases-loop-rest : goal.decreases-loop-rest
decreases-loop-rest l = length l.rest
