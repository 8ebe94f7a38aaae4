-- The rules of a map record over what was read of it.
use Rattle.std.specs.Prelude.{◌≡◌, ℕ, List, [], ◌∷◌, Bool, true, false, ◌&&◌, ◌||◌, not, nat_lt, nat_le, ◌==◌, slice_get, Option, Some, None}
use Rattle.std.specs.Option.{option_map_or}
use Rattle.obf_wire.specs.declared.file.FileKind.TheVariants.{BadOrder, BadId, BadRef, BadPoint, BadMark}
use Rattle.file_grammar.specs.BoxRules.{Beside, is_marked, is_ordinal}
use Rattle.file_grammar.specs.Facts.{Fact, fact}
use Rattle.file_grammar.specs.MapRules.{draws, is_count_for, is_drawn_of, map_fields}
use Rattle.file_grammar.specs.Sections.{Entry}
use Rattle.map_section.specs.declared.record_rules.EntrySeen.{EntrySeen}
use Rattle.map_section.specs.declared.record_rules.Key.{Key}

-- rising by ordinal and rule; it holds of a number that is no ordinal
abbrev pub rises : Key → Key → Bool
rises a b = (nat_lt a.ordinal b.ordinal || ((a.ordinal == b.ordinal) && nat_le a.rule b.rule)) || not (is_ordinal a.ordinal && is_ordinal b.ordinal)

-- the record may stand behind the one before it
abbrev pub may_follow : Option Key → Key → Bool
may_follow None key = true
may_follow (Some before) key = rises before key

-- what the order of records goes by
abbrev pub key_of : Entry → Key
key_of entry = record { ordinal = entry.ordinal; rule = (map_fields entry.fields).rule.value }

-- the rules of a record as it was seen, in a block with so many texts
abbrev pub seen_facts : Beside → ℕ → Option Key → EntrySeen → List Fact
seen_facts beside texts before seen =
    fact seen.at BadOrder (may_follow before (record { ordinal = seen.ordinal; rule = seen.fields.rule.value }))
    ∷ fact seen.fields.step.at BadId (is_ordinal seen.ordinal && is_drawn_of seen.fields.shape.value seen.ordinal)
    ∷ fact seen.fields.step.at BadMark (is_marked beside.marks seen.ordinal)
    ∷ fact seen.fields.rule.at BadRef (option_map_or (draws seen.fields.shape.value) (slice_get beside.rules seen.fields.rule.value) false)
    ∷ fact seen.fields.shape.at BadRef (nat_le seen.fields.shape.value 2)
    ∷ fact seen.fields.name.at BadRef (nat_le seen.fields.name.value texts)
    ∷ fact seen.fields.points.at BadPoint (seen.points.on_grid && is_count_for seen.fields.shape.value seen.points.count)
    ∷ []

-- the rules of a record that is good, but that its points are on the grid
pub record IsGoodMap (beside : Beside) (texts : ℕ) (before : Option Key) (key : Key) (shape name count : ℕ) : Type 0 where
  pub order : may_follow before key ≡ true
  pub id : (is_ordinal key.ordinal && is_drawn_of shape key.ordinal) ≡ true
  pub mark : is_marked beside.marks key.ordinal ≡ true
  pub rule : option_map_or (draws shape) (slice_get beside.rules key.rule) false ≡ true
  pub shape_is : nat_le shape 2 ≡ true
  pub name_is : nat_le name texts ≡ true
  pub count_is : is_count_for shape count ≡ true
