-- A rule line, its tests and its break; texts of rules; and which objects a rule matches.
use Rattle.std.specs.Prelude.{◌≡◌, ◌≢◌, ℕ, ◌+◌, ◌≤◌, List, [], ◌∷◌, ◌++◌, length, drop, take, codes, Bool, true, false, ◌&&◌, ◌||◌, not, nat_le, ◌==◌, Option, Some, None, if◌then◌else◌, is_some, find, bytes_eq, IsTrue, IsUtf8, IfSome}
use Rattle.std.specs.Option.{option_map, option_and_then, option_or}
use Rattle.std.specs.List.{list_all, list_any, flat_map, AllByRecursion}
use Rattle.std.specs.Str.{is_utf8}
use Rattle.std.specs.Fmt.{decimal as printed}
use Rattle.text_pieces.specs.Lines.{fields_from}
use Rattle.text_pieces.specs.Numbers.{number_of, is_digit}
use Rattle.text_pieces.specs.Escapes.{text_of, escaped}
use Rattle.live_model.specs.declared.objects.Tag.{Tag}
use Rattle.live_model.specs.declared.shapes.Shape.{Shape}
use Rattle.live_model.specs.declared.shapes.Shape.TheVariants.{Point, Line, Area}
use Rattle.live_model.specs.declared.classes.Class.{Class}
use Rattle.live_model.specs.declared.classes.Class.TheVariants.{Map, Poi, Road, Place}
use Rattle.live_model.specs.declared.rules.Rule.{Rule}
use Rattle.live_model.specs.declared.rules.RuleBreak.{RuleBreak}
use Rattle.live_model.specs.declared.rules.RuleKind.{RuleKind}
use Rattle.live_model.specs.declared.rules.RuleKind.TheVariants.{NotUtf8, FieldCount, BadShape, BadEscape, BadZoom, BadClass, OverLimit}
use Rattle.live_model.specs.FieldValues.{prepended}
use Rattle.live_model.specs.OplTexts.{object_lines}

-- The fields.

-- `point`, `line` or `area`
unfoldable pub shape_of : List ℕ → Option Shape
shape_of field =
    if bytes_eq field (codes "point") then Some Point else if bytes_eq field (codes "line") then Some Line
    else if bytes_eq field (codes "area") then Some Area else None

-- the star admits every value; any other text is that value alone
unfoldable pub admitted_of : List ℕ → Option (Option (List ℕ))
admitted_of field = if bytes_eq field (codes "*") then Some None else option_map Some (text_of field)

-- one or two digits, at most 22
unfoldable pub zoom_of : List ℕ → Option ℕ
zoom_of field = number_of 2 22 field

-- `a` to `z`, `0` to `9` and `_`
abbrev pub is_category_byte : ℕ → Bool
is_category_byte c = (nat_le 97 c && nat_le c 122) || (is_digit c || (c == 95))

-- 1 to 32 such bytes
abbrev pub is_category : List ℕ → Bool
is_category text = list_all is_category_byte text && (nat_le 1 (length text) && nat_le (length text) 32)

-- `poi.` and a category
unfoldable pub poi_of : List ℕ → Option Class
poi_of field = if bytes_eq (take 4 field) (codes "poi.") && is_category (drop 4 field) then Some (Poi (drop 4 field)) else None

-- `map`, `road`, `place`, or a category
unfoldable pub named_class : List ℕ → Option Class
named_class field =
    if bytes_eq field (codes "map") then Some Map else if bytes_eq field (codes "road") then Some Road
    else if bytes_eq field (codes "place") then Some Place else poi_of field

-- a road is a line
abbrev pub stands_with : Shape → Class → Bool
stands_with Line Road = true
stands_with shape Road = false
stands_with shape class = true

-- a class that may stand with the shape, where both are there
abbrev pub class_with : Option Shape → Option Class → Option Class
class_with (Some shape) (Some class) = if stands_with shape class then Some class else None
class_with shape class = None

-- the class of a rule whose first field is `shape`
abbrev pub class_of : List ℕ → List ℕ → Option Class
class_of shape field = class_with (shape_of shape) (named_class field)

-- What a line spells.

-- the five fields of a rule line, each with its place
pub record RuleFields : Type 0 where
  pub shape : ℕ × List ℕ
  pub key : ℕ × List ℕ
  pub value : ℕ × List ℕ
  pub zoom : ℕ × List ℕ
  pub class : ℕ × List ℕ

-- fields where there are exactly five
abbrev pub five_from : List (ℕ × List ℕ) → Option RuleFields
five_from (a ∷ b ∷ c ∷ d ∷ e ∷ []) = Some (record { shape = a; key = b; value = c; zoom = d; class = e })
five_from fields = None

-- the fields of a line, parted by blanks
unfoldable pub rule_fields : List ℕ → Option RuleFields
rule_fields row = five_from (fields_from 0 row)

-- the rule, where each field is one
abbrev pub rule_from : Option Shape → Option (List ℕ) → Option (Option (List ℕ)) → Option ℕ → Option Class → Option Rule
rule_from (Some shape) (Some key) (Some value) (Some zoom) (Some class) =
    Some (record { shape = shape; key = key; value = value; zoom = zoom; class = class })
rule_from shape key value zoom class = None

-- the rule that five fields spell
abbrev pub rule_in : RuleFields → Option Rule
rule_in f = rule_from (shape_of f.shape.1) (text_of f.key.1) (admitted_of f.value.1) (zoom_of f.zoom.1) (class_of f.shape.1 f.class.1)

-- the rule that a whole rule line spells
unfoldable pub rule_of : List ℕ → Option Rule
rule_of row = if is_utf8 row then option_and_then rule_in (rule_fields row) else None

-- The tests of a line.

-- what is tested at a place of the line, and how the line breaks where that fails
pub record RuleTest : Type 0 where
  pub at : ℕ
  pub kind : RuleKind
  pub passes : Bool

-- a test at a place of the line
abbrev pub rule_test : ℕ → RuleKind → Bool → RuleTest
rule_test at kind passes = record { at = at; kind = kind; passes = passes }

-- the fields from the left, each at its first byte
abbrev pub field_tests : Option RuleFields → List RuleTest
field_tests None = []
field_tests (Some f) =
    rule_test f.shape.0 BadShape (is_some (shape_of f.shape.1)) ∷ rule_test f.key.0 BadEscape (is_some (text_of f.key.1))
    ∷ rule_test f.value.0 BadEscape (is_some (admitted_of f.value.1)) ∷ rule_test f.zoom.0 BadZoom (is_some (zoom_of f.zoom.1))
    ∷ rule_test f.class.0 BadClass (is_some (class_of f.shape.1 f.class.1)) ∷ []

-- the line is UTF-8 and has five fields, each at the line's first byte; then the fields
unfoldable pub rule_tests : List ℕ → List RuleTest
rule_tests row = rule_test 0 NotUtf8 (is_utf8 row) ∷ rule_test 0 FieldCount (is_some (rule_fields row)) ∷ field_tests (rule_fields row)

-- how a line breaks that fails this test
abbrev pub place_and_kind : RuleTest → ℕ × RuleKind
place_and_kind t = (t.at, t.kind)

-- where the line breaks, counted from its first byte, and how; none where every test passes
unfoldable pub rule_break : List ℕ → Option (ℕ × RuleKind)
rule_break row = option_map place_and_kind (find (λ t. not t.passes) (rule_tests row))

-- Texts of rules.

-- the lines that are not skipped, as in a text of objects, each with the place of its first byte
abbrev pub rule_lines : List ℕ → List (ℕ × List ℕ)
rule_lines bytes = object_lines bytes

-- what rule lines spell, where each spells a rule
abbrev pub spelled_rules : List (ℕ × List ℕ) → Option (List Rule)
spelled_rules [] = Some []
spelled_rules (r ∷ rs) = prepended (rule_of r.1) (spelled_rules rs)

-- the text spells these rules, at most 100,000 of them
pub record RuleText (bytes : List ℕ) (rules : List Rule) : Type 0 where
  pub spelled : spelled_rules (rule_lines bytes) ≡ Some rules
  pub within : length rules ≤ 100000

-- the break of a rule line that has n rule lines before it: the 100,001st is over the limit
abbrev pub row_break : ℕ → List ℕ → Option (ℕ × RuleKind)
row_break n row = if nat_le 100000 n then Some (0, OverLimit) else rule_break row

-- the break of a line, counted from the start of the text
abbrev pub break_at : ℕ → ℕ × RuleKind → RuleBreak
break_at start b = record { at = start + b.0; kind = b.1 }

-- the break of the first rule line that has one, where n rule lines stand before all of them
abbrev pub break_from : ℕ → List (ℕ × List ℕ) → Option RuleBreak
break_from n [] = None
break_from n (r ∷ rs) = option_or (option_map (break_at r.0) (row_break n r.1)) (break_from (n + 1) rs)

-- the break of a text; none where it has none
unfoldable pub rules_break : List ℕ → Option RuleBreak
rules_break bytes = break_from 0 (rule_lines bytes)

-- the name of a kind of break
abbrev pub rule_kind_name : RuleKind → List ℕ
rule_kind_name NotUtf8 = codes "NotUtf8"
rule_kind_name FieldCount = codes "FieldCount"
rule_kind_name BadShape = codes "BadShape"
rule_kind_name BadEscape = codes "BadEscape"
rule_kind_name BadZoom = codes "BadZoom"
rule_kind_name BadClass = codes "BadClass"
rule_kind_name OverLimit = codes "OverLimit"

-- The canonical text.

-- `point`, `line` or `area`
abbrev pub shape_text : Shape → List ℕ
shape_text Point = codes "point"
shape_text Line = codes "line"
shape_text Area = codes "area"

-- the star as a value is an escape, so that it is not the star of every value
abbrev pub admitted_text : Option (List ℕ) → List ℕ
admitted_text None = codes "*"
admitted_text (Some value) = if bytes_eq value (codes "*") then codes "%2a%" else escaped value

-- `map`, `poi.` and a category, `road` or `place`
abbrev pub class_text : Class → List ℕ
class_text Map = codes "map"
class_text (Poi category) = codes "poi." ++ category
class_text Road = codes "road"
class_text Place = codes "place"

-- the canonical line of a rule without its line feed
unfoldable pub rule_row : Rule → List ℕ
rule_row r = shape_text r.shape ++ 32 ∷ escaped r.key ++ 32 ∷ admitted_text r.value ++ 32 ∷ printed r.zoom ++ 32 ∷ class_text r.class

-- the canonical line of a rule
unfoldable pub rule_line : Rule → List ℕ
rule_line r = rule_row r ++ 10 ∷ []

-- the canonical text of a table of rules
abbrev pub rules_text : List Rule → List ℕ
rules_text rules = flat_map rule_line rules

-- the text is the canonical text of these rules
pub record IsCanonicalText (bytes : List ℕ) (rules : List Rule) : Type 0 where
  pub spells : RuleText bytes rules
  pub canonical : bytes ≡ rules_text rules

-- a road is a line, and a category is one
abbrev pub IsClass : Shape → Class → Type 0
IsClass shape (Poi category) = IsTrue (is_category category)
IsClass shape class = IsTrue (stands_with shape class)

-- what a rule line can spell
pub record IsRule (r : Rule) : Type 0 where
  pub key : IsUtf8 r.key × (r.key ≢ [])
  pub value : IfSome r.value (λ value. IsUtf8 value × (value ≢ []))
  pub zoom : r.zoom ≤ 22
  pub class : IsClass r.shape r.class

-- the canonical text of rules spells these rules in their order
abbrev pub CanonicalRulesLaw : Type 0
CanonicalRulesLaw = (rules : List Rule) → AllByRecursion IsRule rules → length rules ≤ 100000 → RuleText (rules_text rules) rules

-- What a rule matches.

-- points, then lines, then areas
abbrev pub shape_rank : Shape → ℕ
shape_rank Point = 0
shape_rank Line = 1
shape_rank Area = 2

-- two shapes that are one
abbrev pub same_shape : Shape → Shape → Bool
same_shape a b = shape_rank a == shape_rank b

-- the value is the one that is admitted, or all are
abbrev pub admits : Option (List ℕ) → List ℕ → Bool
admits None value = true
admits (Some admitted) value = bytes_eq admitted value

-- the tag has the key of the rule, and a value that it admits
abbrev pub admits_tag : Rule → Tag → Bool
admits_tag r t = bytes_eq t.key r.key && admits r.value t.value

-- the shape is the rule's, and a tag has its key and a value that it admits
abbrev pub matches : Rule → Shape → List Tag → Bool
matches r shape tags = same_shape r.shape shape && list_any (admits_tag r) tags
