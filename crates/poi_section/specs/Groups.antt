-- Groups of points of interest as they are checked, and what a check keeps of them.
use Rattle.std.specs.Prelude.{◌≡◌, ◌+◌, ℕ, List, [], ◌∷◌, ◌++◌, Bool, true, ◌&&◌, ◌||◌, not, nat_lt, length, flat_map, slice_range, MatchOption, Option, Some, None, Ok, ◌≢◌}
use Rattle.std.specs.Ordering.{is_le}
use Rattle.std.specs.Str.{is_utf8}
use Rattle.live_model.specs.Rules.{is_category}
use Rattle.obf_wire.specs.declared.file.FileBreak.{FileBreak}
use Rattle.obf_wire.specs.Fields.{Window, IsWindow, part_of}
use Rattle.text_table.specs.Tables.{text_cmp}
use Rattle.file_grammar.specs.declared.parts.Boxed.TheVariants.{Poi}
use Rattle.file_grammar.specs.declared.parts.Part.TheVariants.{Group as GroupPart, Pois}
use Rattle.file_grammar.specs.BoxRules.{Beside, with_before}
use Rattle.file_grammar.specs.Facts.{AllHold, earlier, first_failing}
use Rattle.file_grammar.specs.Messages.{Fields, ends, has_bytes, has_message}
use Rattle.file_grammar.specs.PoiRules.{Group, group_facts, group_records, groups_facts, groups_in, poi_boxing, poi_records_in}
use Rattle.file_grammar.specs.Readings.{message_at, message_from}
use Rattle.file_grammar.specs.Sections.{section_in}
use Rattle.boxed_exact.specs.Breaks.{form_then}
use Rattle.boxed_check.specs.Keeping.{IsKept}
use Rattle.poi_section.specs.declared.group_rules.GroupAsked.{GroupAsked}
use Rattle.poi_section.specs.declared.kept.GroupKept.{GroupKept}
use Rattle.poi_section.specs.declared.kept.PoisKept.{PoisKept}

-- the first rule that fails of groups of good form
abbrev pub rules_break : Beside → Fields → Option FileBreak
rules_break beside fields = first_failing (groups_facts beside fields)

-- the first break of the bytes of the window as groups of points of interest
abbrev pub pois_break : Beside → Window → Option FileBreak
pois_break beside w = form_then (rules_break beside) (message_at Pois w)

-- the group stands so among the bytes: its category, and the section of its records, of which every rule holds
pub record IsGroupKept (beside : Beside) (bytes : List ℕ) (kept : GroupKept) (group : Group) : Type 0 where
  pub inside : IsWindow (part_of bytes kept.category.from kept.category.to)
  pub within : IsWindow (part_of bytes kept.records.from kept.records.to)
  pub category : slice_range bytes kept.category.from kept.category.to ≡ group.category.value
  pub section : IsKept Poi poi_boxing beside (part_of bytes kept.records.from kept.records.to) kept.kept
  pub is : section_in section.fields ≡ group.section

-- each group stands so
abbrev pub AreGroupsKept : Beside → List ℕ → List GroupKept → List Group → Type 0
AreGroupsKept beside bytes [] [] = Unit {0}
AreGroupsKept beside bytes (kept ∷ more) (group ∷ groups) = IsGroupKept beside bytes kept group × AreGroupsKept beside bytes more groups
AreGroupsKept beside bytes kept groups = ⊥

-- the window holds groups of which every rule holds, that stand so, and of so many records
pub record ArePoisKept (beside : Beside) (w : Window) (kept : PoisKept) : Type 0 where
  pub fields : Fields
  pub read : message_at Pois w ≡ Ok fields
  pub sound : AllHold (groups_facts beside fields)
  pub groups : AreGroupsKept beside w.bytes kept.groups.items (groups_in fields)
  pub records : kept.records ≡ length (poi_records_in fields)

-- In one pass.

-- rising by the bytes, where equal ones may stand side by side; it holds of one that is not UTF-8
abbrev pub may_rise : List ℕ → List ℕ → Bool
may_rise before category = is_le (text_cmp before category) || not (is_utf8 before && is_utf8 category)

-- the category before; the empty text before the first
abbrev pub category_before : Option Group → List ℕ
category_before None = []
category_before (Some group) = group.category.value

-- the window holds a good group, whose category and records stand so
pub record IsGoodGroup (beside : Beside) (w : Window) (kept : GroupKept) : Type 0 where
  pub a : ℕ
  pub b : ℕ
  pub inside : IsWindow (part_of w.bytes kept.category.from kept.category.to)
  pub within : IsWindow (part_of w.bytes kept.records.from kept.records.to)
  pub named : is_category (slice_range w.bytes kept.category.from kept.category.to) ≡ true
  pub section : IsKept Poi poi_boxing beside (part_of w.bytes kept.records.from kept.records.to) kept.kept
  pub some : nat_lt 0 (length (section_in section.fields).blocks) ≡ true
  pub read : message_at GroupPart w ≡ Ok (has_bytes a 10 (slice_range w.bytes kept.category.from kept.category.to) (has_message b 22 section.fields ends))

-- good groups are left behind one of this category, so that these are kept and so many records are there in all
pub record GroupsLeft (beside : Beside) (w : Window) (before : List ℕ) (kept all : List GroupKept) (count total : ℕ) : Type 0 where
  pub fields : Fields
  pub read : message_from Pois (Some 14) w ≡ Ok fields
  pub facts : (prev : Option Group) → category_before prev ≡ before → AllHold (flat_map (group_facts beside) (with_before prev (groups_in fields)))
  pub more : List GroupKept
  pub added : all ≡ kept ++ more
  pub are : AreGroupsKept beside w.bytes more (groups_in fields)
  pub count_is : count + length (flat_map group_records (groups_in fields)) ≡ total

-- Rule by rule.

-- The group was asked behind another one. It stands so, unless a rule failed.
pub record IsGroupAsked (beside : Beside) (bytes : List ℕ) (prev : Option Group) (group : Group) (old new : Option FileBreak) (asked : GroupAsked) : Type 0 where
  pub broken : new ≡ earlier old (first_failing (group_facts beside (prev, group)))
  pub category : slice_range bytes asked.category.from asked.category.to ≡ group.category.value
  pub kept : MatchOption asked.kept (new ≢ None) (λ kept. IsGroupKept beside bytes (record { category = asked.category; records = asked.records; kept = kept }) group)

-- what there is of a group was added, with the number of its records
pub record IsPut (asked : GroupAsked) (records : ℕ) (old new : List GroupKept) (sum : ℕ) : Type 0 where
  pub put : MatchOption asked.kept (new ≡ old) (λ kept. new ≡ old ++ record { category = asked.category; records = asked.records; kept = kept } ∷ [])
  pub sum_is : MatchOption asked.kept (sum ≡ records) (λ kept. sum ≡ records + kept.records)
