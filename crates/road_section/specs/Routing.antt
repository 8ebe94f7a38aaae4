-- The whole section: roads, then restrictions.
use Rattle.std.specs.Prelude.{◌≡◌, ◌<◌, ◌^◌, ℕ, List, ◌++◌, length, Option, None, Ok}
use Rattle.std.specs.List.{AllByRecursion}
use Rattle.live_model.specs.declared.records.RoadRec.{RoadRec}
use Rattle.live_model.specs.declared.records.BanRec.{BanRec}
use Rattle.live_model.specs.declared.rules.Rule.{Rule}
use Rattle.live_model.specs.Fits.{FitsRestriction, FitsRoad}
use Rattle.obf_wire.specs.declared.file.FileBreak.{FileBreak}
use Rattle.obf_wire.specs.Fields.{Window, IsWindow, left_of, part_of, section}
use Rattle.file_grammar.specs.declared.parts.Boxed.TheVariants.{Restriction, Road}
use Rattle.file_grammar.specs.declared.parts.Part.TheVariants.{Boxes, Routing}
use Rattle.file_grammar.specs.BoxRules.{Beside}
use Rattle.file_grammar.specs.Facts.{AllHold, first_failing}
use Rattle.file_grammar.specs.Messages.{Fields, IsMessage, ends, has_message}
use Rattle.file_grammar.specs.Readings.{IsInMemory, message_at}
use Rattle.file_grammar.specs.RoadRules.{ban_boxing, bans_in, road_boxing, roads_in, routing_facts, routing_in}
use Rattle.boxed_exact.specs.Breaks.{form_then}
use Rattle.boxed_check.specs.Keeping.{IsKept}
use Rattle.boxed_laws.specs.Classes.{without_marks}
use Rattle.boxed_laws.specs.Laws.{in_blocks}
use Rattle.road_section.specs.declared.section.Kept.{Kept as KeptParts}
use Rattle.road_section.specs.declared.section.Spans.{Spans}
use Rattle.road_section.specs.Restrictions.{ban_packing, packed_bans}
use Rattle.road_section.specs.Roads.{packed_roads, road_packing}

-- Packed.

-- the bytes of the section of these roads and restrictions, each in boxes behind their length
abbrev pub packed_routing : List RoadRec → List BanRec → List ℕ
packed_routing roads bans = section 1 (packed_roads roads) ++ section 2 (packed_bans bans)

-- Checked.

-- the first rule that fails of a section of good form
abbrev pub rules_break : Beside → Fields → Option FileBreak
rules_break beside fields = first_failing (routing_facts beside (routing_in fields))

-- the first break of the bytes of the window as a section of roads and restrictions
abbrev pub routing_break : Beside → Window → Option FileBreak
routing_break beside w = form_then (rules_break beside) (message_at Routing w)

-- the parts of a section, where they stand
abbrev pub roads_window : List ℕ → Spans → Window
roads_window bytes spans = part_of bytes spans.roads.from spans.roads.to

abbrev pub bans_window : List ℕ → Spans → Window
bans_window bytes spans = part_of bytes spans.bans.from spans.bans.to

-- both parts stand inside the bytes
pub record AreInside (bytes : List ℕ) (spans : Spans) : Type 0 where
  pub roads : IsWindow (roads_window bytes spans)
  pub bans : IsWindow (bans_window bytes spans)

-- the window holds these two parts, and others behind them
abbrev pub routing_message : Spans → Fields → Fields → Fields → Fields
routing_message spans roads bans rest = has_message spans.roads.at 14 roads (has_message spans.bans.at 22 bans rest)

-- where the parts are of good form, so is the section
abbrev pub AreParts : Window → Spans → Type 0
AreParts w spans =
    (roads bans : Fields) → message_at (Boxes Road) (roads_window w.bytes spans) ≡ Ok roads → message_at (Boxes Restriction) (bans_window w.bytes spans) ≡ Ok bans
    → message_at Routing w ≡ Ok (routing_message spans roads bans ends)

-- these are the parts of the section of these fields
pub record ArePartsOf (bytes : List ℕ) (spans : Spans) (fields : Fields) : Type 0 where
  pub roads : Fields
  pub bans : Fields
  pub rest : Fields
  pub is : fields ≡ routing_message spans roads bans rest
  pub roads_read : message_at (Boxes Road) (roads_window bytes spans) ≡ Ok roads
  pub bans_read : message_at (Boxes Restriction) (bans_window bytes spans) ≡ Ok bans

-- the window holds a section of which every rule holds, and this is what there is of its parts
pub record IsRoutingKept (beside : Beside) (w : Window) (kept : KeptParts) : Type 0 where
  pub inside : AreInside w.bytes kept.spans
  pub roads : IsKept Road road_boxing beside (roads_window w.bytes kept.spans) kept.roads
  pub bans : IsKept Restriction ban_boxing beside (bans_window w.bytes kept.spans) kept.bans
  pub rest : Fields
  pub read : message_at Routing w ≡ Ok (routing_message kept.spans roads.fields bans.fields rest)

-- Law: what is packed of records that fit the rules is a section of these records.

-- the bytes of the window are a section of these roads and restrictions, in the order of its blocks, and every rule holds of it
pub record IsRouting (beside : Beside) (w : Window) (roads : List RoadRec) (bans : List BanRec) : Type 0 where
  pub fields : Fields
  pub form : IsMessage Routing w fields
  pub sound : AllHold (routing_facts beside (routing_in fields))
  pub roads_are : roads ≡ roads_in (routing_in fields).roads
  pub bans_are : bans ≡ bans_in (routing_in fields).bans

-- the same, as it is read field by field, where no rule fails
pub record ReadsAsRouting (beside : Beside) (w : Window) (roads : List RoadRec) (bans : List BanRec) : Type 0 where
  pub fields : Fields
  pub read : message_at Routing w ≡ Ok fields
  pub sound : first_failing (routing_facts beside (routing_in fields)) ≡ None
  pub roads_are : roads_in (routing_in fields).roads ≡ roads
  pub bans_are : bans_in (routing_in fields).bans ≡ bans

abbrev pub PackedRoutingLaw : Type 0
PackedRoutingLaw =
    (rules : List Rule) (roads : List RoadRec) (bans : List BanRec) (w : Window) → length rules < 2 ^ 64 → AllByRecursion (FitsRoad rules) roads → AllByRecursion FitsRestriction bans
    → IsWindow w → length w.bytes < 2 ^ 64 → left_of w ≡ packed_routing roads bans
    → IsRouting (without_marks rules) w (in_blocks road_packing roads) (in_blocks ban_packing bans)

abbrev pub PackedRoutingReadLaw : Type 0
PackedRoutingReadLaw =
    (rules : List Rule) (roads : List RoadRec) (bans : List BanRec) (w : Window) → length rules < 2 ^ 64 → AllByRecursion (FitsRoad rules) roads → AllByRecursion FitsRestriction bans
    → IsInMemory w → left_of w ≡ packed_routing roads bans
    → ReadsAsRouting (without_marks rules) w (in_blocks road_packing roads) (in_blocks ban_packing bans)
