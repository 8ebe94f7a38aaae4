-- Entries and blocks that are put beside those before them.
use Rattle.std.specs.Prelude.{◌≡◌, ℕ, List, [], ◌∷◌, ◌++◌, Some, Ok}
use Rattle.obf_wire.specs.declared.field.Field.{Field}
use Rattle.file_grammar.specs.declared.parts.Part.TheVariants.{KeyEntry as EntryPart}
use Rattle.file_grammar.specs.AddressRules.{KeyEntry, entry_with}
use Rattle.file_grammar.specs.Messages.{Fields}
use Rattle.file_grammar.specs.Readings.{message_at, payload_of}
use Rattle.addr_section.specs.declared.kept.EntryKept.{EntryKept}
use Rattle.addr_section.specs.declared.kept.ListKept.{ListKept}
use Rattle.addr_section.specs.Kept.{IsEntryKept}

-- the entry that the field holds was put last
pub record IsEntryPut (bytes : List ℕ) (f : Field) (old new : List EntryKept) : Type 0 where
  pub kept : EntryKept
  pub put : new ≡ old ++ kept ∷ []
  pub is : (fields : Fields) (entry : KeyEntry) → message_at EntryPart (payload_of bytes f) ≡ Ok fields → entry_with f.at fields ≡ Some entry → IsEntryKept bytes kept entry

-- the entry or the block that the field is was put last
pub record IsFieldPut (bytes : List ℕ) (f : Field) (old new : ListKept) : Type 0 where
  pub entry : f.key ≡ 10 → IsEntryPut bytes f old.entries.items new.entries.items × (new.blocks.items ≡ old.blocks.items)
  pub block : f.key ≡ 22 → (new.entries.items ≡ old.entries.items) × (new.blocks.items ≡ old.blocks.items ++ record { at = f.at; from = f.from; to = f.to } ∷ [])
