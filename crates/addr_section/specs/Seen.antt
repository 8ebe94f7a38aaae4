-- Addresses as they were seen, and their rules over what was seen.
use Rattle.std.specs.Prelude.{◌≡◌, ℕ, List, [], ◌∷◌, Bool, true, length, ◌&&◌, ◌||◌, not, nat_lt, nat_le, ◌==◌, Option, None, Some}
use Rattle.std.specs.List.{list_all}
use Rattle.std.specs.Ordering.{is_eq, is_lt}
use Rattle.std.specs.Str.{is_utf8}
use Rattle.coord_delta.specs.Steps.{places}
use Rattle.obf_wire.specs.declared.file.FileKind.TheVariants.{BadText, BadOrder, BadId, BadRef, BadPoint, BadMark}
use Rattle.text_table.specs.Tables.{text_cmp}
use Rattle.live_model.specs.Records.{is_empty}
use Rattle.file_grammar.specs.AddressRules.{Address, address_with, is_addressed, is_key_of, is_kind_in, is_lang_for, is_number_for}
use Rattle.file_grammar.specs.BoxRules.{Beside, is_marked, is_on_grid, is_ordinal}
use Rattle.file_grammar.specs.Facts.{Fact, fact}
use Rattle.file_grammar.specs.Messages.{Fields}
use Rattle.file_grammar.specs.Sections.{Placed, placed}
use Rattle.addr_section.specs.declared.addresses.AddressSeen.{AddressSeen}
use Rattle.addr_section.specs.declared.addresses.SortKey.{SortKey}
use Rattle.addr_section.specs.declared.addresses.TextSeen.{TextSeen}

-- What was seen.

-- the language, where one stands there
abbrev pub lang_of : Option TextSeen → Option (Placed (List ℕ))
lang_of None = None
lang_of (Some lang) = Some (placed lang.at lang.text.now)

-- the address of which this was seen, with these numbers for its points
abbrev pub address_of : AddressSeen → List ℕ → Address
address_of s points = record {
  at = s.at;
  ordinal = placed s.ordinal.at s.ordinal.value;
  kind = placed s.kind.at s.kind.value;
  key = placed s.key.at s.key.text.now;
  name = placed s.name.at s.name.text.now;
  number = placed s.number.at s.number.text.now;
  points = placed s.points_at points;
  lang = lang_of s.lang;
}

-- the address in these fields was seen so
pub record IsRead (at : ℕ) (fields : Fields) (seen : AddressSeen) : Type 0 where
  pub points : List ℕ
  pub is : address_with at fields ≡ Some (address_of seen points)
  pub count : seen.points.count ≡ length (places points)
  pub on_grid : seen.points.on_grid ≡ list_all is_on_grid (places points)

-- The order.

-- what the order goes by
abbrev pub sort_key : AddressSeen → SortKey
sort_key s = record { key = s.key.text; kind = s.kind.value; ordinal = s.ordinal.value }

-- it is that of the address
abbrev pub IsSortKey : SortKey → Address → Type 0
IsSortKey k a = (k.key.now ≡ a.key.value) × (k.kind ≡ a.kind.value) × (k.ordinal ≡ a.ordinal.value)

-- the same where there is an address
abbrev pub IsSortKeyOf : Option SortKey → Option Address → Type 0
IsSortKeyOf None None = Unit {0}
IsSortKeyOf (Some k) (Some a) = IsSortKey k a
IsSortKeyOf k a = ⊥

-- rising by kind and ordinal, where equal ones may stand side by side
abbrev pub numbers_rise : SortKey → SortKey → Bool
numbers_rise a b =
    nat_lt a.kind b.kind || ((a.kind == b.kind) && (nat_le a.ordinal b.ordinal || not (is_ordinal a.ordinal && is_ordinal b.ordinal)))

-- rising by key, kind and ordinal
abbrev pub rises : SortKey → SortKey → Bool
rises a b =
    (is_lt (text_cmp a.key.now b.key.now) || (is_eq (text_cmp a.key.now b.key.now) && numbers_rise a b)) || not (is_utf8 a.key.now && is_utf8 b.key.now)

-- an address may stand after this one
abbrev pub may_follow : Option SortKey → SortKey → Bool
may_follow None b = true
may_follow (Some a) b = rises a b

-- The rules.

-- that of a language
abbrev pub lang_seen : ℕ → Option TextSeen → List Fact
lang_seen kind None = []
lang_seen kind (Some lang) = fact lang.at BadText (is_lang_for kind lang.text.now) ∷ []

-- what has to hold of an address as it was seen, after another one
abbrev pub seen_facts : Bool → Beside → Option SortKey → AddressSeen → List Fact
seen_facts houses beside before s =
    fact s.at BadOrder (may_follow before (sort_key s))
    ∷ fact s.ordinal.at BadId (is_ordinal s.ordinal.value && is_addressed s.kind.value s.ordinal.value)
    ∷ fact s.ordinal.at BadMark (is_marked beside.marks s.ordinal.value)
    ∷ fact s.kind.at BadRef (is_kind_in houses s.kind.value)
    ∷ fact s.key.at BadText (is_key_of s.name.text.now s.key.text.now)
    ∷ fact s.name.at BadText (is_utf8 s.name.text.now && not (is_empty s.name.text.now))
    ∷ fact s.number.at BadText (is_number_for s.kind.value s.number.text.now)
    ∷ fact s.points_at BadPoint (s.points.on_grid && (s.points.count == 1))
    ∷ lang_seen s.kind.value s.lang
