-- Good groups, one after another.
use Rattle.std.proofs.Common.{◌≡◌, ℕ, suc, ◌+◌, ◌≤◌, true, List, [], ◌∷◌, ◌++◌, length, flat_map, map, Option, Some, None, Result, Ok, refl, sym, ap, subst, ◌∙◌, arith, append_assoc, length-append}
use Rattle.std.specs.Prelude.{nat_lt, slice_range}
use Rattle.std.proofs.lemmas.Bool.Decides.{nat_tests}
use Rattle.std.proofs.lemmas.List.{append-nil, length-map}
use Rattle.live_model.specs.Rules.{is_category}
use Rattle.obf_wire.specs.declared.field.Field.{Field}
use Rattle.obf_wire.specs.declared.file.FileBreak.{FileBreak}
use Rattle.obf_wire.specs.Fields.{Window, IsWindow, part_of}
use Rattle.obf_wire.specs.KnownKeys.{StandsFirst}
use Rattle.file_grammar.specs.declared.parts.Boxed.{Boxed}
use Rattle.file_grammar.specs.declared.parts.Boxed.TheVariants.{Poi}
use Rattle.file_grammar.specs.declared.parts.Part.TheVariants.{Boxes, Group as GroupPart, Pois}
use Rattle.file_grammar.specs.BoxRules.{Beside, follows, with_before}
use Rattle.file_grammar.specs.Messages.{Fields, ends, has_bytes, has_message}
use Rattle.file_grammar.specs.PoiRules.{Group, categories_rise, group_facts, group_records, groups_facts, groups_in, poi_boxing, poi_read}
use Rattle.file_grammar.specs.Readings.{message_at, message_from}
use Rattle.file_grammar.specs.Sections.{Block, placed, section_in}
use Rattle.file_grammar.proofs.Built.{ends_there, bytes_before, message_before}
use Rattle.file_grammar.proofs.Earlier.{one_first_break_law}
use Rattle.boxed_exact.specs.Breaks.{form_then}
use Rattle.boxed_exact.specs.declared.fields.Payload.{Payload}
use Rattle.boxed_check.specs.Keeping.{AreSpans, IsKept, entries_of}
use Rattle.boxed_check.specs.declared.kept.Kept.{Kept}
use Rattle.boxed_check.proofs.BlockWalk.{all_append}
use Rattle.boxed_check.proofs.NodeWalk.{window_behind}
use Rattle.poi_section.specs.declared.kept.GroupKept.{GroupKept}
use Rattle.poi_section.specs.declared.kept.PoisKept.{PoisKept}
use Rattle.poi_section.specs.Groups.{AreGroupsKept, ArePoisKept, GroupsLeft, IsGoodGroup, category_before, may_rise, pois_break, rules_break}

abbrev at_place : Window → ℕ → Window
at_place w next = record w { place = next }

abbrev fields_ok : Fields → Result Fields FileBreak
fields_ok x = Ok x

-- a category and a section that fill the window are a group
pub group_is : (w : Window) (category records : Field) (inner : Fields) → IsWindow w → StandsFirst w 10 category → StandsFirst (at_place w category.to) 22 records → records.to ≡ w.end
    → message_at (Boxes Poi) (part_of w.bytes records.from records.to) ≡ fields_ok inner
    → message_at GroupPart w ≡ fields_ok (has_bytes category.at 10 (slice_range w.bytes category.from category.to) (has_message records.at 22 inner ends))
group_is w category records inner window r1 r2 all held =
    let w1 = window_behind w category window r1.inside in
    let w2 = window_behind (at_place w category.to) records w1 r2.inside in
    let s2 : message_from GroupPart (Some 22) (at_place w records.to) ≡ fields_ok ends = ends_there GroupPart (Some 22) (at_place w records.to) w2 (omega (arith, all)) refl in
    let s1 : message_from GroupPart (Some 10) (at_place w category.to) ≡ fields_ok (has_message records.at 22 inner ends) = message_before GroupPart (Some 10) (at_place w category.to) 22 (Boxes Poi) records inner ends w1 refl refl r2 held s2 in
    bytes_before GroupPart None w 10 category (has_message records.at 22 inner ends) window refl refl r1 s1

-- the records of a section are as many as its entries
pub count_records : (category : List ℕ) (blocks : List Block) → length (flat_map (λ (block : Block). map (poi_read category block) block.entries) blocks) ≡ length (entries_of blocks)
count_records category [] = refl
count_records category (b ∷ bs) =
    let rest = count_records category bs in
    let one = length-map b.entries (poi_read category b) in
    let l = length-append (map (poi_read category b) b.entries) (flat_map (λ (block : Block). map (poi_read category block) block.entries) bs) in
    let r = length-append b.entries (entries_of bs) in
    omega (arith, rest, one, l, r)

pub groups_end : (beside : Beside) (w : Window) (before : List ℕ) (kept : List GroupKept) (count : ℕ) → IsWindow w → w.end ≤ w.place → GroupsLeft beside w before kept kept count count
groups_end beside w before kept count window none = record {
  fields = ends;
  read = ends_there Pois (Some 14) w window none refl;
  facts = λ prev is. tt;
  more = [];
  added = sym (append-nil kept);
  are = tt;
  count_is = omega arith;
}

-- the order, by the category before
pub category_follows : (prev : Option Group) (group : Group) → may_rise (category_before prev) group.category.value ≡ true → follows categories_rise (prev, group) ≡ true
category_follows None group h = refl
category_follows (Some before) group h = h

-- a good group in front of good groups
pub groups_on : (beside : Beside) (w : Window) (before : List ℕ) (f : Field) (one : GroupKept) (kept all : List GroupKept) (count total : ℕ) → IsWindow w → StandsFirst w 14 f → IsGoodGroup beside (part_of w.bytes f.from f.to) one
    → may_rise before (slice_range w.bytes one.category.from one.category.to) ≡ true
    → GroupsLeft beside (at_place w f.to) (slice_range w.bytes one.category.from one.category.to) (kept ++ one ∷ []) all (count + one.kept.records) total → GroupsLeft beside w before kept all count total
groups_on beside w before f one kept all count total window read g rises l =
    let category : List ℕ = slice_range w.bytes one.category.from one.category.to in
    let inner : Fields = has_bytes g.a 10 category (has_message g.b 22 g.section.fields ends) in
    let group : Group = record { at = f.at; category = placed g.a category; section = section_in g.section.fields } in
    let rest : List Group = groups_in l.fields in
    let many = length-append (group_records group) (flat_map group_records rest) in
    let own = count_records category (section_in g.section.fields).blocks in
    record {
      fields = has_message f.at 14 inner l.fields;
      read = message_before Pois (Some 14) w 14 GroupPart f inner l.fields window refl refl read g.read l.read;
      facts = λ prev is.
          all_append (group_facts beside (prev, group)) (flat_map (group_facts beside) (with_before (Some group) rest))
          (category_follows prev group (subst (λ (t : List ℕ). may_rise t category ≡ true) (sym is) rises), (g.named, (g.some, g.section.sound))) (l.facts (Some group) refl);
      more = one ∷ l.more;
      added = l.added ∙ append_assoc kept (one ∷ []) l.more;
      are = (record { inside = g.inside; within = g.within; category = refl; section = g.section; is = refl }, l.are);
      count_is = omega (arith, l.count_is, many, own, g.section.records);
    }

groups_again : (w : Window) (fields : Fields) → message_from Pois (Some 14) w ≡ fields_ok fields → message_at Pois w ≡ fields_ok fields
unfolding message_from
groups_again w fields e = e

-- good groups from the beginning on
pub pois_are : (beside : Beside) (w : Window) (kept : PoisKept) → GroupsLeft beside w [] [] kept.groups.items 0 kept.records → ArePoisKept beside w kept
unfolding groups_facts
pois_are beside w kept l = record {
  fields = l.fields;
  read = groups_again w l.fields l.read;
  sound = l.facts None refl;
  groups = subst (λ (gs : List GroupKept). AreGroupsKept beside w.bytes gs (groups_in l.fields)) (sym l.added) l.are;
  records = omega (arith, l.count_is);
}

-- what is kept of groups has no break
pub kept_good : (beside : Beside) (w : Window) (kept : PoisKept) → ArePoisKept beside w kept → pois_break beside w ≡ None
kept_good beside w kept k =
    let none : rules_break beside k.fields ≡ None = (one_first_break_law (groups_facts beside k.fields)).none.1 k.sound in
    ap (form_then (rules_break beside)) k.read ∙ none

pub some_blocks : (block : Block) (blocks : List Block) → nat_lt 0 (length (block ∷ blocks)) ≡ true
some_blocks block blocks = grind (arith, nat_tests)

spans_some : (class : Boxed) (bytes : List ℕ) (spans : List Payload) (blocks : List Block) → AreSpans class bytes spans blocks → length spans ≡ length blocks
spans_some class bytes [] [] are = refl
spans_some class bytes [] (b ∷ bs) are = absurd are
spans_some class bytes (s ∷ ss) [] are = absurd are
spans_some class bytes (s ∷ ss) (b ∷ bs) are = ap suc (spans_some class bytes ss bs are.1)

-- a group that was read so
pub good_group : (beside : Beside) (w : Window) (category records : Field) (kept : Kept) → IsWindow w → StandsFirst w 10 category → StandsFirst (at_place w category.to) 22 records → records.to ≡ w.end
    → is_category (slice_range w.bytes category.from category.to) ≡ true → IsKept Poi poi_boxing beside (part_of w.bytes records.from records.to) kept → nat_lt 0 (length kept.blocks.items) ≡ true
    → IsGoodGroup beside w (record { category = record { at = category.at; from = category.from; to = category.to }; records = record { at = records.at; from = records.from; to = records.to }; kept = kept })
good_group beside w category records kept window r1 r2 all named k some = record {
  a = category.at;
  b = records.at;
  inside = record { ordered = r1.inside.ordered; within = omega (arith, r1.inside.ends, window.within) };
  within = record { ordered = r2.inside.ordered; within = omega (arith, r2.inside.ends, window.within) };
  named = named;
  section = k;
  some = subst (λ (n : ℕ). nat_lt 0 n ≡ true) (spans_some Poi w.bytes kept.blocks.items (section_in k.fields).blocks k.blocks) some;
  read = group_is w category records k.fields window r1 r2 all k.read;
}
