-- A whole map file: what it holds, what has to hold of it, and how it breaks first.
use Rattle.std.specs.Prelude.{◌≡◌, ◌↔◌, ℕ, ◌+◌, ◌*◌, ◌/◌, ◌%◌, IsTrue, IfSome, List, [], ◌∷◌, ◌++◌, length, map, Bool, ◌&&◌, ◌||◌, not, nat_lt, nat_le, ◌==◌, Option, Some, None, is_some, unwrap_or, bytes_eq, if◌then◌else◌, Result, Ok, Err}
use Rattle.std.specs.List.{list_all}
use Rattle.std.specs.Option.{option_and_then}
use Rattle.stamp_core.specs.Calendar.{days_in_month}
use Rattle.stamp_core.specs.Hours.{CivilHour, IsCivilHour, number_of}
use Rattle.stamp_core.specs.Heads.{IsGoodHead}
use Rattle.stamp_core.specs.declared.head.Head.{Head}
use Rattle.live_model.specs.declared.rules.Rule.{Rule}
use Rattle.live_model.specs.declared.records.Rec.{Rec}
use Rattle.live_model.specs.declared.records.Rec.TheVariants.{Map, Poi, Addr, Road, Ban}
use Rattle.live_model.specs.Rules.{spelled_rules, rule_lines, rules_text}
use Rattle.live_model.specs.Maps.{in_order}
use Rattle.live_model.specs.Levels.{level_number}
use Rattle.obf_wire.specs.Fields.{Window}
use Rattle.obf_wire.specs.declared.file.FileBreak.{FileBreak}
use Rattle.obf_wire.specs.declared.file.FileKind.TheVariants.{BadHead, BadRules, BadOrder, BadId, BadMark, BadConfirm}
use Rattle.file_grammar.specs.declared.parts.Part.TheVariants.{File}
use Rattle.file_grammar.specs.declared.parts.Version.{Version}
use Rattle.file_grammar.specs.declared.parts.Version.TheVariants.{One, Two}
use Rattle.file_grammar.specs.Messages.{Fields, has_number, has_bytes, has_numbers, has_message, IsMessage}
use Rattle.file_grammar.specs.Readings.{IsInMemory, message_at}
use Rattle.file_grammar.specs.Facts.{Fact, fact, AllHold, first_failing}
use Rattle.file_grammar.specs.Sections.{Placed, placed, section_in}
use Rattle.file_grammar.specs.BoxRules.{with_before, follows, is_ordinal, Beside, section_facts}
use Rattle.file_grammar.specs.MapRules.{map_boxing, map_records_in}
use Rattle.file_grammar.specs.PoiRules.{groups_facts, poi_records_in}
use Rattle.file_grammar.specs.AddressRules.{address_records_in, addresses_facts, addresses_of}
use Rattle.file_grammar.specs.RoadRules.{bans_in, roads_in, routing_facts, routing_in}

-- What a file holds.

-- a level and two numbers of hours, as they stand
pub record HeadNumbers : Type 0 where
  pub level : ℕ
  pub first : ℕ
  pub last : ℕ

-- the parts of a file, where a rule needs it with its place; the list of marks at the place of the field that holds it
pub record FileParts : Type 0 where
  pub version : ℕ
  pub head : Placed HeadNumbers
  pub rules : Placed (List ℕ)
  pub map : Fields
  pub addresses : Fields
  pub pois : Fields
  pub roads : Fields
  pub marks : Placed (List ℕ)
  pub again : Placed ℕ

-- level, first and last
abbrev pub head_in : Fields → HeadNumbers
head_in (has_number a j level (has_number b k first (has_number c l last rest))) = record { level = level; first = first; last = last }
head_in fields = record { level = 0; first = 0; last = 0 }

-- the ordinal that each difference leads to, from one on
abbrev pub sums_from : ℕ → List ℕ → List ℕ
sums_from before [] = []
sums_from before (step ∷ steps) = (before + step) ∷ sums_from (before + step) steps

-- the marks, whose field holds the first ordinal and then differences
abbrev pub marks_in : Fields → Placed (List ℕ)
marks_in (has_numbers at key steps rest) = placed at (sums_from 0 steps)
marks_in fields = placed 0 []

-- of a file of good form
abbrev pub file_in : Fields → Option FileParts
file_in (has_number a b version (has_message c d head (has_bytes e f rules (has_message g h map
    (has_message i j addresses (has_message k l pois (has_message m n roads (has_message o p marks (has_number q r again rest))))))))) =
    Some (record {
      version = version;
      head = placed c (head_in head);
      rules = placed e rules;
      map = map;
      addresses = addresses;
      pois = pois;
      roads = roads;
      marks = marks_in marks;
      again = placed q again;
    })
file_in fields = None

-- What has to hold.

-- year, month, day and hour in decimal, one behind the other, are an hour that the calendar has
abbrev pub is_hour : ℕ → Bool
is_hour n =
    let year = n / 1000000 in let month = n / 10000 % 100 in let day = n / 100 % 100 in
    nat_le year 9999 && ((nat_le 1 month && nat_le month 12) && ((nat_le 1 day && nat_le day (days_in_month year month)) && nat_le (n % 100) 23))

-- the two hours lie in one hour, in one day, in one month
abbrev pub is_stretch : ℕ → ℕ → ℕ → Bool
is_stretch level first last =
    if level == 1 then first == last else if level == 2 then first / 100 == last / 100 else (level == 3) && (first / 10000 == last / 10000)

-- a base has no hours; above it both are hours, the first at most the last, in one stretch of the level
abbrev pub is_head : HeadNumbers → Bool
is_head h =
    if h.level == 0 then (h.first == 0) && (h.last == 0) else (is_hour h.first && is_hour h.last) && (nat_le h.first h.last && is_stretch h.level h.first h.last)

-- the rules of a canonical text
abbrev pub rules_in : List ℕ → Option (List Rule)
rules_in text =
    option_and_then (λ rules. if nat_le (length rules) 100000 && bytes_eq text (rules_text rules) then Some rules else None) (spelled_rules (rule_lines text))

-- the first is smaller; it holds of a number that is no ordinal
abbrev pub mark_rises : ℕ → ℕ → Bool
mark_rises a b = nat_lt a b || not (is_ordinal a && is_ordinal b)

-- strictly rising, mark by mark
abbrev pub rise_strictly : List ℕ → Bool
rise_strictly marks = list_all (follows mark_rises) (with_before None marks)

-- the marks that records are asked for: none in a base, nor where the list of marks fails a rule of its own
abbrev pub marks_beside : ℕ → List ℕ → Option (List ℕ)
marks_beside level marks = if (level == 0) || not (rise_strictly marks && list_all is_ordinal marks) then None else Some marks

-- what stands beside the sections; no rules where their text is not canonical, which is told at a place before them
abbrev pub beside : FileParts → Beside
beside file = record { rules = unwrap_or (rules_in file.rules.value) []; marks = marks_beside file.head.value.level file.marks.value }

-- marks rise strictly, are ordinals, and are none in a base
abbrev pub marks_facts : ℕ → Placed (List ℕ) → List Fact
marks_facts level marks =
    fact marks.at BadOrder (rise_strictly marks.value) ∷ fact marks.at BadId (list_all is_ordinal marks.value)
    ∷ fact marks.at BadMark (not (level == 0) || (length marks.value == 0)) ∷ []

-- all that has to hold of the sections of a file
abbrev pub sections_facts : Beside → FileParts → List Fact
sections_facts beside file =
    section_facts map_boxing beside (section_in file.map) ++ addresses_facts beside (addresses_of file.addresses)
    ++ groups_facts beside file.pois ++ routing_facts beside (routing_in file.roads)

-- all that has to hold of a file of good form; the version itself is asked with its form
unfoldable pub file_facts : FileParts → List Fact
file_facts file =
    fact file.head.at BadHead (is_head file.head.value) ∷ fact file.rules.at BadRules (is_some (rules_in file.rules.value))
    ∷ fact file.again.at BadConfirm (file.again.value == file.version)
    ∷ marks_facts file.head.value.level file.marks ++ sections_facts (beside file) file

-- The records.

-- the records of all sections, each in the order of the file
abbrev pub section_records : FileParts → List Rec
section_records file =
    map Map (map_records_in (section_in file.map)) ++ map Addr (address_records_in (addresses_of file.addresses)) ++ map Poi (poi_records_in file.pois)
    ++ map Road (roads_in (routing_in file.roads).roads) ++ map Ban (bans_in (routing_in file.roads).bans)

-- the records of a file, in the order of records
abbrev pub file_records : FileParts → List Rec
file_records file = in_order (section_records file)

-- Files.

-- all bytes
abbrev pub whole : List ℕ → Window
whole bytes = record { bytes = bytes; place = 0; end = length bytes }

-- the bytes are a file of this version with these parts; the records are those of all its sections
pub record IsFile (bytes : List ℕ) (version : Version) (head : HeadNumbers) (rules : List Rule) (marks : List ℕ) (records : List Rec) : Type 0 where
  pub fields : Fields
  pub parts : FileParts
  pub form : IsMessage (File version) (whole bytes) fields
  pub parts_are : file_in fields ≡ Some parts
  pub sound : AllHold (file_facts parts)
  pub head_is : head ≡ parts.head.value
  pub rules_are : rules_in parts.rules.value ≡ Some rules
  pub marks_are : marks ≡ parts.marks.value
  pub records_are : records ≡ file_records parts

-- the version in whose form bytes are read: the second where they begin with the field of that version, `08 02`, else the first
abbrev pub version_of : List ℕ → Version
version_of (key ∷ value ∷ rest) = if (key == 1 * 8 + 0) && (value == 2) then Two else One
version_of bytes = One

-- of a file of good form, which always has its parts
abbrev pub facts_in : Option FileParts → List Fact
facts_in None = []
facts_in (Some file) = file_facts file

-- the first break of form; or, of a file of good form, the first fact that fails
abbrev pub break_in_file : Result Fields FileBreak → Option FileBreak
break_in_file (Err b) = Some b
break_in_file (Ok fields) = first_failing (facts_in (file_in fields))

-- how the bytes break as a file; none where they are one
abbrev pub file_break : List ℕ → Option FileBreak
file_break bytes = break_in_file (message_at (File (version_of bytes)) (whole bytes))

-- Heads.

-- the number of an hour; 0, which no hour has, where there is none
abbrev pub hour_number : Option CivilHour → ℕ
hour_number None = 0
hour_number (Some hour) = number_of hour

-- a head by its numbers
abbrev pub head_numbers : Head → HeadNumbers
head_numbers head = record { level = level_number head.level; first = hour_number head.first; last = hour_number head.last }

-- Laws.

-- the numbers of a head are good where it is
abbrev pub HeadLaw : Type 0
HeadLaw = (head : Head) → IfSome head.first IsCivilHour → IfSome head.last IsCivilHour → IsTrue (is_head (head_numbers head)) ↔ IsGoodHead head

-- the number is that of an hour
pub record IsHourNumber (n : ℕ) : Type 0 where
  pub hour : CivilHour
  pub civil : IsCivilHour hour
  pub number : n ≡ number_of hour

-- the digits are those of an hour that there is
abbrev pub HourLaw : Type 0
HourLaw = (n : ℕ) → IsTrue (is_hour n) ↔ IsHourNumber n

-- a file of good form has its parts
abbrev pub PartsLaw : Type 0
PartsLaw = (bytes : List ℕ) (version : Version) (fields : Fields) → IsInMemory (whole bytes) → IsMessage (File version) (whole bytes) fields → IsTrue (is_some (file_in fields))

-- the bytes are a file with some parts
pub record IsSomeFile (bytes : List ℕ) : Type 0 where
  pub version : Version
  pub head : HeadNumbers
  pub rules : List Rule
  pub marks : List ℕ
  pub records : List Rec
  pub file : IsFile bytes version head rules marks records

-- just a file has no break
abbrev pub FileLaw : Type 0
FileLaw = (bytes : List ℕ) → IsInMemory (whole bytes) → (file_break bytes ≡ None) ↔ IsSomeFile bytes

-- a file has its parts once
abbrev pub OnePartsLaw : Type 0
OnePartsLaw = (bytes : List ℕ) (version other_version : Version) (head other_head : HeadNumbers) (rules other_rules : List Rule) (marks other_marks : List ℕ) (records other_records : List Rec)
    → IsInMemory (whole bytes) → IsFile bytes version head rules marks records → IsFile bytes other_version other_head other_rules other_marks other_records
    → (version ≡ other_version) × (head ≡ other_head) × (rules ≡ other_rules) × (marks ≡ other_marks) × (records ≡ other_records)
