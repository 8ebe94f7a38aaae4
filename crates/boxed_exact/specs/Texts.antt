-- The texts of a block, as the code holds them.
use Rattle.std.specs.Prelude.{◌≡◌, ℕ, List, length, Ok}
use Rattle.obf_wire.specs.Windows.{range_of}
use Rattle.file_grammar.specs.declared.parts.Part.TheVariants.{Texts}
use Rattle.file_grammar.specs.Messages.{Fields}
use Rattle.file_grammar.specs.Readings.{message_at}
use Rattle.file_grammar.specs.Sections.{Placed, texts_in}
use Rattle.boxed_exact.specs.declared.block_texts.BlockTexts.{BlockTexts}

-- these texts stand in the range, and there are so many
pub record AreTexts (held : BlockTexts) (texts : List (Placed (List ℕ))) : Type 0 where
  pub fields : Fields
  pub read : message_at Texts (range_of held.window) ≡ Ok fields
  pub are : texts ≡ texts_in fields
  pub count : length texts ≡ held.count
