-- Where the parts of a file stand among its bytes.
use Rattle.std.specs.Prelude.{◌≡◌, ◌≤◌, ℕ, List, length, slice_range, Some, Result, Ok}
use Rattle.obf_wire.specs.declared.file.FileBreak.{FileBreak}
use Rattle.obf_wire.specs.Fields.{Window}
use Rattle.file_grammar.specs.declared.parts.Boxed.TheVariants.{Map}
use Rattle.file_grammar.specs.declared.parts.Part.TheVariants.{Addresses, Boxes, File, Head, Marks, Pois, Routing}
use Rattle.file_grammar.specs.Files.{FileParts, HeadNumbers, file_in, head_in, marks_in, sums_from, version_of, whole}
use Rattle.file_grammar.specs.Messages.{Fields}
use Rattle.file_grammar.specs.Readings.{message_at, numbers_at}
use Rattle.file_grammar.specs.Sections.{placed}
use Rattle.boxed_exact.specs.declared.fields.Payload.{Payload}
use Rattle.obf_reader.specs.declared.heads.HeadNumbers.{HeadNumbers as HeadRead}
use Rattle.obf_reader.specs.declared.spans.Sections.{Sections}
use Rattle.obf_reader.specs.declared.spans.Spans.{Spans}

-- the fields of a file, in the form of the version that it begins with, or the first break of form
abbrev pub read_file : List ℕ → Result Fields FileBreak
read_file bytes = message_at (File (version_of bytes)) (whole bytes)

-- the part of the bytes that is a payload
abbrev pub window_of : List ℕ → Payload → Window
window_of bytes p = record { bytes = bytes; place = p.from; end = p.to }

-- the payload lies within the bytes
abbrev pub IsInBytes : List ℕ → Payload → Type 0
IsInBytes bytes p = (p.from ≤ p.to) × (p.to ≤ length bytes)

-- all sections do
pub record AreInBytes (bytes : List ℕ) (s : Sections) : Type 0 where
  pub map : IsInBytes bytes s.map
  pub addresses : IsInBytes bytes s.addresses
  pub pois : IsInBytes bytes s.pois
  pub roads : IsInBytes bytes s.roads

-- all payloads do
pub record AreInside (bytes : List ℕ) (s : Spans) : Type 0 where
  pub head : IsInBytes bytes s.head
  pub rules : IsInBytes bytes s.rules
  pub sections : AreInBytes bytes s.sections
  pub marks : IsInBytes bytes s.marks

-- the sections of a file stand there
pub record AreSectionsOf (bytes : List ℕ) (s : Sections) (parts : FileParts) : Type 0 where
  pub map : message_at (Boxes Map) (window_of bytes s.map) ≡ Ok parts.map
  pub addresses : message_at (Addresses (version_of bytes)) (window_of bytes s.addresses) ≡ Ok parts.addresses
  pub pois : message_at Pois (window_of bytes s.pois) ≡ Ok parts.pois
  pub roads : message_at Routing (window_of bytes s.roads) ≡ Ok parts.roads

-- the parts of a file stand at these places
pub record IsSpread (bytes : List ℕ) (s : Spans) (fields : Fields) : Type 0 where
  pub parts : FileParts
  pub are : file_in fields ≡ Some parts
  pub version : s.version.value ≡ parts.version
  pub head : Fields
  pub head_at : s.head.at ≡ parts.head.at
  pub head_read : message_at Head (window_of bytes s.head) ≡ Ok head
  pub head_is : parts.head.value ≡ head_in head
  pub rules_at : s.rules.at ≡ parts.rules.at
  pub rules : slice_range bytes s.rules.from s.rules.to ≡ parts.rules.value
  pub sections : AreSectionsOf bytes s.sections parts
  pub marks : Fields
  pub marks_read : message_at Marks (window_of bytes s.marks) ≡ Ok marks
  pub marks_are : parts.marks ≡ marks_in marks
  pub again_at : s.again.at ≡ parts.again.at
  pub again : s.again.value ≡ parts.again.value

-- the marks are those of the differences that stand in this payload
pub record HoldsMarks (bytes : List ℕ) (list : Payload) (inner : Fields) : Type 0 where
  pub steps : List ℕ
  pub marks : marks_in inner ≡ placed list.at (sums_from 0 steps)
  pub read : numbers_at (window_of bytes list) ≡ Ok steps

-- the numbers as a file holds them
abbrev pub seen_numbers : HeadRead → HeadNumbers
seen_numbers n = record { level = n.level; first = n.first; last = n.last }

-- the numbers of a head
abbrev pub HoldsHead : HeadRead → Fields → Type 0
HoldsHead n inner = seen_numbers n ≡ head_in inner
