-- What a reader of rules owes besides the rules themselves.
use Rattle.std.specs.Prelude.{◌≡◌, ◌≤◌, ◌<◌, ℕ, ◌+◌, List, length, Option, Some, None, IsTrue, find, not}
use Rattle.std.specs.Option.{option_map}
use Rattle.std.specs.Str.{is_utf8}
use Rattle.text_pieces.specs.declared.lines.Field.{Field}
use Rattle.live_model.specs.declared.rules.Rule.{Rule}
use Rattle.live_model.specs.declared.rules.RuleKind.{RuleKind}
use Rattle.live_model.specs.Rules.{IsRule, RuleFields, RuleText, rule_of, rule_fields, rule_break, row_break, rules_break, field_tests, place_and_kind}
use Rattle.tag_rules.specs.declared.errors.RuleError.{RuleError}
use Rattle.tag_rules.specs.declared.errors.RuleError.TheVariants.{NoMemory, Broken}
use Rattle.tag_rules.specs.declared.rows.Fields.{Fields}

-- a text of rules is called broken at its first break alone
abbrev pub IsCause : List ℕ → RuleError → Type 0
IsCause bytes NoMemory = Unit {0}
IsCause bytes (Broken b) = rules_break bytes ≡ Some b

-- a text spells one list of rules or none, and it spells one exactly where it has no break
pub record IsExact (bytes : List ℕ) : Type 0 where
  pub one : (a b : List Rule) → RuleText bytes a → RuleText bytes b → a ≡ b
  pub unbroken : (rules : List Rule) → RuleText bytes rules → rules_break bytes ≡ None
  pub spelled : rules_break bytes ≡ None → (rules : List Rule) × RuleText bytes rules

-- Lines.

-- the line spells this rule
pub record IsRead (row : List ℕ) (rule : Rule) : Type 0 where
  pub spelled : rule_of row ≡ Some rule
  pub good : IsRule rule

-- the break of a line, counted from its first byte
abbrev pub IsRowCause : List ℕ → RuleError → Type 0
IsRowCause row NoMemory = Unit {0}
IsRowCause row (Broken b) = (rule_break row ≡ Some (b.at, b.kind)) × (b.at ≤ length row)

-- the break of a line that begins at a place of a text, and has n rule lines before it
abbrev pub IsCauseAt : ℕ → ℕ → List ℕ → RuleError → Type 0
IsCauseAt n start row NoMemory = Unit {0}
IsCauseAt n start row (Broken b) = (k : ℕ) × (row_break n row ≡ Some (k, b.kind)) × (b.at ≡ start + k)

-- Fields.

-- a field with its place
abbrev pub placed : Field → ℕ × List ℕ
placed f = (f.at, f.bytes.now)

-- five fields with their places
abbrev pub seen : Fields → RuleFields
seen f = record { shape = placed f.shape; key = placed f.key; value = placed f.value; zoom = placed f.zoom; class = placed f.class }

-- a field has a byte, and is UTF-8
pub record IsPiece (f : Field) : Type 0 where
  pub some : 0 < length f.bytes.now
  pub text : IsTrue (is_utf8 f.bytes.now)

-- the fields that hold texts are UTF-8, and none begins behind a place
pub record ArePieces (end : ℕ) (f : Fields) : Type 0 where
  pub key : IsPiece f.key
  pub value : IsPiece f.value
  pub within : (f.shape.at ≤ end) × (f.key.at ≤ end) × (f.value.at ≤ end) × (f.zoom.at ≤ end) × (f.class.at ≤ end)

-- the fields of a line
pub record AreFields (row : List ℕ) (f : Fields) : Type 0 where
  pub are : rule_fields row ≡ Some (seen f)
  pub pieces : ArePieces (length row) f

-- the first of the tests of the fields that fails
abbrev pub fields_break : RuleFields → Option (ℕ × RuleKind)
fields_break f = option_map place_and_kind (find (λ t. not t.passes) (field_tests (Some f)))

-- the break of the fields of a line, none of them behind a place
abbrev pub IsFieldsCause : RuleFields → ℕ → RuleError → Type 0
IsFieldsCause f end NoMemory = Unit {0}
IsFieldsCause f end (Broken b) = (fields_break f ≡ Some (b.at, b.kind)) × (b.at ≤ end)

-- memory was refused, or a field breaks at its place in this way, and this holds
abbrev pub OnBroken : ℕ → RuleKind → Type 0 → RuleError → Type 0
OnBroken at kind P NoMemory = Unit {0}
OnBroken at kind P (Broken b) = (b ≡ record { at = at; kind = kind }) × P
