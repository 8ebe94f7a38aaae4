-- What stands in fields that were read.
use Rattle.std.specs.Prelude.{◌≡◌, ℕ, List, Bool, ◌&&◌, ◌||◌, not, nat_lt, length, Some, Ok}
use Rattle.std.specs.Ordering.{is_lt}
use Rattle.std.specs.Str.{is_utf8}
use Rattle.text_table.specs.Tables.{text_cmp}
use Rattle.file_grammar.specs.declared.parts.Part.{Part}
use Rattle.file_grammar.specs.declared.parts.Content.TheVariants.{Message}
use Rattle.file_grammar.specs.Messages.{Fields}
use Rattle.file_grammar.specs.Readings.{message_at}
use Rattle.file_grammar.specs.Tables.{content_of}
use Rattle.file_grammar.specs.Walks.{Standing}

-- these fields are the message that a field of this key holds, in a part of the bytes
pub record HoldsInner (s : Standing) (from to key : ℕ) (inner : Fields) : Type 0 where
  pub part : Part
  pub content : content_of s.part key ≡ Some (Message part)
  pub read : message_at part (record { bytes = s.window.bytes; place = from; end = to }) ≡ Ok inner

-- a text that may stand behind another one
abbrev pub is_text_behind : List ℕ → List ℕ → Bool
is_text_behind before text = (is_utf8 text && nat_lt 0 (length text)) && (is_lt (text_cmp before text) || not (is_utf8 before && is_utf8 text))
