-- Addresses as they are read of the bytes of a section.
use Rattle.std.specs.Prelude.{ℕ, List, ◌++◌, map}
use Rattle.live_model.specs.declared.addresses.AddrRec.{AddrRec}
use Rattle.obf_wire.specs.Fields.{Window, part_of}
use Rattle.file_grammar.specs.declared.parts.Part.TheVariants.{KeyedBlock as BlockPart}
use Rattle.file_grammar.specs.declared.parts.Version.{Version}
use Rattle.file_grammar.specs.AddressRules.{Addresses, KeyedList, address_record_of}
use Rattle.file_grammar.specs.Messages.{Fields}
use Rattle.file_grammar.specs.Walks.{Standing, left_in}
use Rattle.boxed_exact.specs.declared.fields.Payload.{Payload}
use Rattle.boxed_read.specs.Records.{fields_at, fields_read}
use Rattle.addr_section.specs.Kept.{addresses_within}

-- the records of the addresses in the fields of a block
abbrev pub records_in : Fields → List AddrRec
records_in fields = map address_record_of (addresses_within fields)

-- the records that are left of a block
abbrev pub records_left : Standing → List AddrRec
records_left s = records_in (fields_read (left_in s))

-- the records of the block in a window
abbrev pub records_at : Version → Window → List AddrRec
records_at version w = records_in (fields_at (BlockPart version) w)

-- the records of the blocks that stand there, block by block
abbrev pub records_of : Version → List ℕ → List Payload → List (List AddrRec)
records_of version bytes spans = map (λ span. records_at version (part_of bytes span.from span.to)) spans

-- the records of each block of a list
abbrev pub list_blocks : KeyedList → List (List AddrRec)
list_blocks list = map (λ block. map address_record_of block.addresses) list.blocks

-- the records of each block of a section, names before houses
abbrev pub address_blocks : Addresses → List (List AddrRec)
address_blocks addresses = list_blocks addresses.names ++ list_blocks addresses.houses
