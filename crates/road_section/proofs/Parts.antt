-- The two parts of a section of roads and restrictions: their breaks, and what there is of them.
use Rattle.std.proofs.Common.{◌≡◌, ℕ, Option, Some, None, Result, Ok, Err, Bool, true, false, refl, sym, ap, subst, ◌∙◌, arith}
use Rattle.std.specs.Prelude.{if◌then◌else◌}
use Rattle.obf_wire.specs.declared.field.Field.{Field}
use Rattle.obf_wire.specs.declared.file.FileBreak.{FileBreak}
use Rattle.obf_wire.specs.Fields.{Window, IsWindow}
use Rattle.obf_wire.specs.KnownKeys.{StandsFirst}
use Rattle.file_grammar.specs.declared.parts.Boxed.TheVariants.{Restriction, Road}
use Rattle.file_grammar.specs.declared.parts.Content.{Content}
use Rattle.file_grammar.specs.declared.parts.Content.TheVariants.{Message}
use Rattle.file_grammar.specs.declared.parts.Part.{Part}
use Rattle.file_grammar.specs.declared.parts.Part.TheVariants.{Boxes, Routing}
use Rattle.file_grammar.specs.BoxRules.{Beside, section_facts}
use Rattle.file_grammar.specs.Facts.{comes_first, earlier, first_failing}
use Rattle.file_grammar.specs.Messages.{Fields, ends, has_message}
use Rattle.file_grammar.specs.Readings.{break_in, message_at, message_from}
use Rattle.file_grammar.specs.RoadRules.{ban_boxing, road_boxing}
use Rattle.file_grammar.specs.Sections.{section_in}
use Rattle.file_grammar.specs.Tables.{content_of}
use Rattle.file_grammar.specs.Walks.{Standing}
use Rattle.file_grammar.proofs.Built.{ends_there, message_before}
use Rattle.file_grammar.proofs.Earlier.{first_joined, one_first_break_law}
use Rattle.file_grammar.proofs.Shaped.{BeginsMessage, begins_message, shaped}
use Rattle.boxed_exact.specs.Breaks.{form_then, section_break}
use Rattle.boxed_exact.specs.Breaks as B
use Rattle.boxed_exact.specs.declared.fields.Payload.{Payload}
use Rattle.boxed_exact.specs.Fields.{HoldsInner}
use Rattle.boxed_check.specs.Keeping.{IsKept}
use Rattle.boxed_check.proofs.NodeWalk.{window_behind}
use Rattle.road_section.specs.declared.section.Kept.{Kept as KeptParts}
use Rattle.road_section.specs.declared.section.Spans.{Spans}
use Rattle.road_section.specs.Routing.{AreInside, AreParts, ArePartsOf, IsRoutingKept, bans_window, roads_window, routing_break, routing_message, rules_break}

abbrev fields_ok : Fields → Result Fields FileBreak
fields_ok x = Ok x

abbrev at_place : Window → ℕ → Window
at_place w next = record w { place = next }

-- ---- breaks

pub record AreNone (a b : Option FileBreak) : Type 0 where
  pub one : a ≡ None
  pub other : b ≡ None

one_of : (first : Bool) (a b : FileBreak) → ◌≡◌ {A = Option FileBreak} (if first then Some a else Some b) None → AreNone (Some a) (Some b)
one_of true a b e = absurd cc
one_of false a b e = absurd cc

both_none : (a b : Option FileBreak) → earlier a b ≡ None → AreNone a b
both_none None b e = record { one = refl; other = e }
both_none (Some a) None e = absurd cc
both_none (Some a) (Some b) e = one_of (comes_first a b) a b e

-- the break of a section is that of its parts which comes first
pub break_is : (beside : Beside) (w : Window) (spans : Spans) (fields : Fields) → message_at Routing w ≡ Ok fields → ArePartsOf w.bytes spans fields
    → earlier (section_break Road road_boxing beside (roads_window w.bytes spans)) (section_break Restriction ban_boxing beside (bans_window w.bytes spans)) ≡ routing_break beside w
break_is beside w spans fields read p =
    let roads = section_facts road_boxing beside (section_in p.roads) in
    let bans = section_facts ban_boxing beside (section_in p.bans) in
    ap (λ (b : Option FileBreak). earlier b (section_break Restriction ban_boxing beside (bans_window w.bytes spans))) (ap (form_then (B.rules_break road_boxing beside)) p.roads_read)
    ∙ ap (earlier (first_failing roads)) (ap (form_then (B.rules_break ban_boxing beside)) p.bans_read)
    ∙ sym (first_joined roads bans)
    ∙ sym (ap (form_then (rules_break beside)) (read ∙ ap fields_ok p.is))

-- a break of form is the first
pub form_breaks : (beside : Beside) (w : Window) (b : FileBreak) → Some b ≡ break_in (message_at Routing w) → routing_break beside w ≡ Some b
form_breaks beside w b e = one (message_at Routing w) e
  where
    one : (r : Result Fields FileBreak) → Some b ≡ break_in r → form_then (rules_break beside) r ≡ Some b
    one (Ok fields) e = absurd cc
    one (Err found) e = sym e

-- without a break of form there are fields
pub form_is : (w : Window) → None ≡ break_in (message_at Routing w) → (fields : Fields) × (message_at Routing w ≡ Ok fields)
form_is w e = one (message_at Routing w) refl e
  where
    one : (r : Result Fields FileBreak) → message_at Routing w ≡ r → None ≡ break_in r → (fields : Fields) × (message_at Routing w ≡ Ok fields)
    one (Ok fields) is e = (fields, is)
    one (Err found) is e = absurd cc

-- a section without a break was read, and its parts are without one
pub record AreUnbroken (beside : Beside) (w : Window) (spans : Spans) : Type 0 where
  pub fields : Fields
  pub read : message_at Routing w ≡ Ok fields
  pub parts : ArePartsOf w.bytes spans fields
  pub roads : section_break Road road_boxing beside (roads_window w.bytes spans) ≡ None
  pub bans : section_break Restriction ban_boxing beside (bans_window w.bytes spans) ≡ None

pub unbroken : (beside : Beside) (w : Window) (spans : Spans) → ((fields : Fields) → message_at Routing w ≡ Ok fields → ArePartsOf w.bytes spans fields) → routing_break beside w ≡ None → AreUnbroken beside w spans
unbroken beside w spans parts none = one (message_at Routing w) refl none
  where
    one : (r : Result Fields FileBreak) → message_at Routing w ≡ r → form_then (rules_break beside) r ≡ None → AreUnbroken beside w spans
    one (Err found) is e = absurd cc
    one (Ok fields) is e =
        let p = parts fields is in
        let apart = both_none _ _ (break_is beside w spans fields is p ∙ none) in
        record { fields = fields; read = is; parts = p; roads = apart.one; bans = apart.other }

-- ---- what there is of the parts

same_fields : (a b : Fields) → fields_ok a ≡ fields_ok b → a ≡ b
same_fields a b e = cc

pub kept_exactly : (beside : Beside) (w : Window) (kept : KeptParts) (u : AreUnbroken beside w kept.spans) → AreInside w.bytes kept.spans → IsKept Road road_boxing beside (roads_window w.bytes kept.spans) kept.roads → IsKept Restriction ban_boxing beside (bans_window w.bytes kept.spans) kept.bans
    → IsRoutingKept beside w kept
kept_exactly beside w kept u inside roads bans =
    let same_roads = same_fields u.parts.roads roads.fields (sym u.parts.roads_read ∙ roads.read) in
    let same_bans = same_fields u.parts.bans bans.fields (sym u.parts.bans_read ∙ bans.read) in
    record {
      inside = inside;
      roads = roads;
      bans = bans;
      rest = u.parts.rest;
      read =
          u.read ∙ ap fields_ok u.parts.is
          ∙ ap (λ (f : Fields). fields_ok (routing_message kept.spans f u.parts.bans u.parts.rest)) same_roads
          ∙ ap (λ (f : Fields). fields_ok (routing_message kept.spans roads.fields f u.parts.rest)) same_bans;
    }

pub kept_straight : (beside : Beside) (w : Window) (kept : KeptParts) → AreParts w kept.spans → AreInside w.bytes kept.spans → IsKept Road road_boxing beside (roads_window w.bytes kept.spans) kept.roads → IsKept Restriction ban_boxing beside (bans_window w.bytes kept.spans) kept.bans
    → IsRoutingKept beside w kept
kept_straight beside w kept parts inside roads bans = record { inside = inside; roads = roads; bans = bans; rest = ends; read = parts roads.fields bans.fields roads.read bans.read }

-- what is kept of a section has no break
pub kept_good : (beside : Beside) (w : Window) (kept : KeptParts) → IsRoutingKept beside w kept → routing_break beside w ≡ None
kept_good beside w kept k =
    let roads = section_facts road_boxing beside (section_in k.roads.fields) in
    let bans = section_facts ban_boxing beside (section_in k.bans.fields) in
    ap (form_then (rules_break beside)) k.read ∙ first_joined roads bans
    ∙ ap (λ (b : Option FileBreak). earlier b (first_failing bans)) ((one_first_break_law roads).none.1 k.roads.sound) ∙ (one_first_break_law bans).none.1 k.bans.sound

-- ---- where the parts stand

abbrev holds : Content → Option Content
holds content = Some content

roads_part : (part : Part) → content_of Routing 14 ≡ holds (Message part) → Boxes Road ≡ part
roads_part part e = cc

bans_part : (part : Part) → content_of Routing 22 ≡ holds (Message part) → Boxes Restriction ≡ part
bans_part part e = cc

pub record IsRoutingRecord (fields : Fields) : Type 0 where
  pub a : ℕ
  pub roads : Fields
  pub b : ℕ
  pub bans : Fields
  pub rest : Fields
  pub is : fields ≡ has_message a 14 roads (has_message b 22 bans rest)

pub routing_record : (w : Window) (fields : Fields) → message_at Routing w ≡ Ok fields → IsRoutingRecord fields
routing_record w fields e =
    let one : BeginsMessage Routing 14 (Boxes Road) fields = begins_message Routing None 14 (Boxes Road) fields refl refl refl (shaped Routing w fields e) in
    let two : BeginsMessage Routing 22 (Boxes Restriction) one.rest = begins_message Routing (Some 14) 22 (Boxes Restriction) one.rest refl refl refl one.shaped in
    record { a = one.at; roads = one.inner; b = two.at; bans = two.inner; rest = two.rest; is = one.is ∙ ap (has_message one.at 14 one.inner) two.is }

pub held_roads : (s : Standing) (from to : ℕ) (inner : Fields) → s.part ≡ Routing → HoldsInner s from to 14 inner → message_at (Boxes Road) (record { bytes = s.window.bytes; place = from; end = to }) ≡ Ok inner
held_roads s from to inner is h =
    let c : content_of Routing 14 ≡ holds (Message h.part) = subst (λ (p : Part). content_of p 14 ≡ holds (Message h.part)) is h.content in
    subst (λ (p : Part). message_at p (record { bytes = s.window.bytes; place = from; end = to }) ≡ Ok inner) (sym (roads_part h.part c)) h.read

pub held_bans : (s : Standing) (from to : ℕ) (inner : Fields) → s.part ≡ Routing → HoldsInner s from to 22 inner → message_at (Boxes Restriction) (record { bytes = s.window.bytes; place = from; end = to }) ≡ Ok inner
held_bans s from to inner is h =
    let c : content_of Routing 22 ≡ holds (Message h.part) = subst (λ (p : Part). content_of p 22 ≡ holds (Message h.part)) is h.content in
    subst (λ (p : Part). message_at p (record { bytes = s.window.bytes; place = from; end = to }) ≡ Ok inner) (sym (bans_part h.part c)) h.read

abbrev pub span_of : Field → Payload
span_of f = record { at = f.at; from = f.from; to = f.to }

-- two fields in a straight line are the parts of a section
pub straight_parts : (w : Window) (one two : Field) → IsWindow w → StandsFirst w 14 one → StandsFirst (at_place w one.to) 22 two → two.to ≡ w.end → AreParts w (record { roads = span_of one; bans = span_of two })
straight_parts w one two window r1 r2 all roads bans roads_read bans_read =
    let w1 = window_behind w one window r1.inside in
    let w2 = window_behind (at_place w one.to) two w1 r2.inside in
    let s3 : message_from Routing (Some 22) (at_place w two.to) ≡ fields_ok ends = ends_there Routing (Some 22) (at_place w two.to) w2 (omega (arith, all)) refl in
    let s2 : message_from Routing (Some 14) (at_place w one.to) ≡ fields_ok (has_message two.at 22 bans ends) = message_before Routing (Some 14) (at_place w one.to) 22 (Boxes Restriction) two bans ends w1 refl refl r2 bans_read s3 in
    message_before Routing None w 14 (Boxes Road) one roads (has_message two.at 22 bans ends) window refl refl r1 roads_read s2
