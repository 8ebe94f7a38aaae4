-- What is packed of roads and restrictions is one section of them.
use Rattle.std.proofs.Common.{◌≡◌, ℕ, ◌+◌, ◌<◌, ◌≤◌, ◌^◌, List, [], ◌++◌, length, Option, Some, None, true, refl, sym, ap, subst, ◌∙◌, append_assoc, arith}
use Rattle.std.specs.Prelude.{slice_range}
use Rattle.std.specs.List.{AllByRecursion}
use Rattle.std.proofs.lemmas.List.{append-nil}
use Rattle.live_model.specs.declared.records.BanRec.{BanRec}
use Rattle.live_model.specs.declared.records.RoadRec.{RoadRec}
use Rattle.live_model.specs.declared.rules.Rule.{Rule}
use Rattle.live_model.specs.Fits.{FitsRestriction, FitsRoad}
use Rattle.obf_wire.specs.Varint.{varint}
use Rattle.obf_wire.specs.Fields.{Window, IsWindow, content, field_spelling, left_of, part_of}
use Rattle.file_grammar.specs.declared.parts.Part.{Part}
use Rattle.file_grammar.specs.declared.parts.Part.TheVariants.{Routing}
use Rattle.file_grammar.specs.Facts.{Fact}
use Rattle.file_grammar.specs.Messages.{Fields, HaveForm, IsMessageFor, MayCome, beyond, ends, has_message, inside, spelling}
use Rattle.file_grammar.specs.Tables.{content_of}
use Rattle.file_grammar.specs.RoadRules.{routing_facts, routing_in}
use Rattle.file_grammar.proofs.Earlier.{one_first_break_law}
use Rattle.file_grammar.proofs.Ranges.{range-parts}
use Rattle.file_grammar.proofs.SpelledIsRead.{spelled_is_read}
use Rattle.boxed_laws.specs.Classes.{without_marks}
use Rattle.boxed_laws.specs.Laws.{IsSection, in_blocks}
use Rattle.boxed_laws.proofs.BlockTexts.{all_join}
use Rattle.road_section.specs.BanLawful.{ban_class}
use Rattle.road_section.specs.RoadLawful.{road_class}
use Rattle.road_section.specs.Restrictions.{ban_packing, packed_bans}
use Rattle.road_section.specs.Roads.{packed_roads, road_packing}
use Rattle.road_section.specs.Routing.{PackedRoutingLaw, PackedRoutingReadLaw, packed_routing}
use Rattle.road_section.proofs.PackedRouting.{packed_law}

-- the key and the length of a part
abbrev head : ℕ → List ℕ → List ℕ
head key part = varint key ++ content key (length part)

-- a part stands behind its key and its length, and others behind it
pub record Stands (w : Window) (key : ℕ) (part rest : List ℕ) : Type 0 where
  pub from : w.place + length (head key part) ≤ w.end
  pub to : w.place + length (head key part) + length part ≤ w.end
  pub left : slice_range w.bytes (w.place + length (head key part)) (w.place + length (head key part) + length part) ≡ part
  pub behind : slice_range w.bytes (w.place + length (head key part) + length part) w.end ≡ rest

stands : (w : Window) (key : ℕ) (part rest : List ℕ) → IsWindow w → left_of w ≡ head key part ++ (part ++ rest) → Stands w key part rest
stands w key part rest window left =
    let first = range-parts w.bytes w.place w.end (head key part) (part ++ rest) window.ordered window.within left in
    let second = range-parts w.bytes (w.place + length (head key part)) w.end part rest first.0 window.within first.2 in
    record { from = first.0; to = second.0; left = second.1; behind = second.2 }

-- a message of so many bytes, and the fields behind it
message_formed : (part : Part) (last : Option ℕ) (at key : ℕ) (inner rest : Fields) (size : ℕ) → size ≡ length (spelling inner) → MayCome part last key → IsMessageFor (λ sub. HaveForm sub None (inside at key size) inner) (content_of part key)
    → HaveForm part (Some key) (beyond at key size) rest → HaveForm part last at (has_message at key inner rest)
unfolding HaveForm
message_formed part last at key inner rest size e come form others = (
  refl,
  come,
  subst (λ (k : ℕ). IsMessageFor (λ sub. HaveForm sub None (inside at key k) inner) (content_of part key)) e form,
  subst (λ (k : ℕ). HaveForm part (Some key) (beyond at key k) rest) e others,
)

nothing_behind : (at : ℕ) → HaveForm Routing (Some 22) at ends
unfolding HaveForm
nothing_behind at = refl

both_spelled : (at place : ℕ) (roads bans : Fields) (a b : List ℕ) → spelling roads ≡ a → spelling bans ≡ b
    → field_spelling 14 (length a) a ++ field_spelling 22 (length b) b ≡ spelling (has_message at 14 roads (has_message place 22 bans ends))
unfolding spelling
both_spelled at place roads bans a b is_a is_b =
    ap (λ (t : List ℕ). field_spelling 14 (length a) a ++ t) (sym (append-nil (field_spelling 22 (length b) b)))
    ∙ ap (λ (t : List ℕ). field_spelling 14 (length t) t ++ (field_spelling 22 (length b) b ++ [])) (sym is_a)
    ∙ ap (λ (t : List ℕ). field_spelling 14 (length (spelling roads)) (spelling roads) ++ (field_spelling 22 (length t) t ++ [])) (sym is_b)

-- the parts of a packed section, each where it stands
pub record AreSections (rules : List Rule) (roads : List RoadRec) (bans : List BanRec) (w : Window) : Type 0 where
  pub from : ℕ
  pub to : ℕ
  pub start : ℕ
  pub from_is : from ≡ inside w.place 14 (length (packed_roads roads))
  pub to_is : to ≡ beyond w.place 14 (length (packed_roads roads))
  pub start_is : start ≡ inside to 22 (length (packed_bans bans))
  pub roads_are : IsSection road_class (without_marks rules) (part_of w.bytes from to) (in_blocks road_packing roads)
  pub bans_are : IsSection ban_class (without_marks rules) (part_of w.bytes start (start + length (packed_bans bans))) (in_blocks ban_packing bans)
  pub roads_left : left_of (part_of w.bytes from to) ≡ packed_roads roads
  pub bans_left : left_of (part_of w.bytes start (start + length (packed_bans bans))) ≡ packed_bans bans

two_parts : (h a g b : List ℕ) → h ++ a ++ (g ++ b) ≡ h ++ (a ++ (g ++ (b ++ [])))
two_parts h a g b = append_assoc h a (g ++ b) ∙ ap (λ (t : List ℕ). h ++ (a ++ (g ++ t))) (sym (append-nil b))

sections : (rules : List Rule) (roads : List RoadRec) (bans : List BanRec) (w : Window) → length rules < 2 ^ 64 → AllByRecursion (FitsRoad rules) roads → AllByRecursion FitsRestriction bans
    → IsWindow w → length w.bytes < 2 ^ 64 → left_of w ≡ packed_routing roads bans → AreSections rules roads bans w
sections rules roads bans w few fit_roads fit_bans window short left =
    let a : List ℕ = packed_roads roads in
    let b : List ℕ = packed_bans bans in
    let one = stands w 14 a (head 22 b ++ (b ++ [])) window (left ∙ two_parts (head 14 a) a (head 22 b) b) in
    let from : ℕ = w.place + length (head 14 a) in
    let to : ℕ = w.place + length (head 14 a) + length a in
    let v : Window = part_of w.bytes to w.end in
    let two = stands v 22 b [] (record { ordered = one.to; within = window.within }) one.behind in
    let start : ℕ = to + length (head 22 b) in
    record {
      from = from;
      to = to;
      start = start;
      from_is = refl;
      to_is = refl;
      start_is = refl;
      roads_are = packed_law.roads rules roads (part_of w.bytes from to) few fit_roads (record { ordered = omega arith; within = omega (arith, one.to, window.within) }) short one.left;
      bans_are = packed_law.bans rules bans (part_of w.bytes start (start + length b)) few fit_bans (record { ordered = omega arith; within = omega (arith, two.to, window.within) }) short two.left;
      roads_left = one.left;
      bans_left = two.left;
    }

pub packed_routing_law : PackedRoutingLaw
packed_routing_law rules roads bans w few fit_roads fit_bans window short left =
    let s = sections rules roads bans w few fit_roads fit_bans window short left in
    let r = s.roads_are in
    let b = s.bans_are in
    let roads_spelled : spelling r.fields ≡ packed_roads roads = sym r.form.spelled ∙ s.roads_left in
    let bans_spelled : spelling b.fields ≡ packed_bans bans = sym b.form.spelled ∙ s.bans_left in
    let there : ℕ = beyond w.place 14 (length (packed_roads roads)) in
    let start : s.start ≡ inside there 22 (length (packed_bans bans)) = s.start_is ∙ ap (λ (n : ℕ). inside n 22 (length (packed_bans bans))) s.to_is in
    let second = message_formed Routing (Some 14) there 22 b.fields ends (length (packed_bans bans)) (ap length (sym bans_spelled)) refl (subst (λ (n : ℕ). IsMessageFor (λ sub. HaveForm sub None n b.fields) (content_of Routing 22)) start b.form.form)
    (nothing_behind (beyond there 22 (length (packed_bans bans)))) in
    record {
      fields = has_message w.place 14 r.fields (has_message there 22 b.fields ends);
      form = record {
        form = message_formed Routing None w.place 14 r.fields (has_message there 22 b.fields ends) (length (packed_roads roads)) (ap length (sym roads_spelled)) refl
            (subst (λ (n : ℕ). IsMessageFor (λ sub. HaveForm sub None n r.fields) (content_of Routing 14)) s.from_is r.form.form) second;
        spelled = left ∙ both_spelled w.place there r.fields b.fields (packed_roads roads) (packed_bans bans) roads_spelled bans_spelled;
      };
      sound = all_join (λ (f : Fact). f.holds ≡ true) _ _ r.sound b.sound;
      roads_are = r.records_are;
      bans_are = b.records_are;
    }

pub packed_routing_read : PackedRoutingReadLaw
packed_routing_read rules roads bans w few fit_roads fit_bans memory left =
    let s = packed_routing_law rules roads bans w few fit_roads fit_bans memory.window memory.few left in record {
      fields = s.fields;
      read = spelled_is_read s.fields Routing None w memory s.form.form s.form.spelled;
      sound = (one_first_break_law (routing_facts (without_marks rules) (routing_in s.fields))).none.1 s.sound;
      roads_are = sym s.roads_are;
      bans_are = sym s.bans_are;
    }
