-- What the order of addresses goes by, of the last of some.
use Rattle.std.proofs.Common.{Option, Some, None}
use Rattle.std.specs.Option.{option_or}
use Rattle.file_grammar.specs.AddressRules.{Address}
use Rattle.addr_section.specs.declared.addresses.SortKey.{SortKey}
use Rattle.addr_section.specs.Seen.{IsSortKeyOf}

-- the last of a block, or the one before where it has none
pub or_key : (last before : Option SortKey) (x prev : Option Address) → IsSortKeyOf last x → IsSortKeyOf before prev → IsSortKeyOf (option_or last before) (option_or x prev)
or_key None before None prev is was = was
or_key None before (Some a) prev is was = absurd is
or_key (Some k) before None prev is was = absurd is
or_key (Some k) before (Some a) prev is was = is
