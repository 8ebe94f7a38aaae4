-- Groups of points of interest of which a check left where they stand.
use Rattle.std.proofs.Common.{◌≡◌, ℕ, zero, suc, ◌<◌, ◌≤◌, true, List, [], ◌∷◌, length, map, Option, Some, None, Ok, refl, sym, ap, subst, ◌∙◌, arith}
use Rattle.std.specs.Prelude.{flat_map, slice_get, slice_range, IsUtf8}
use Rattle.std.specs.List.{AllByRecursion, list_all}
use Rattle.std.proofs.lemmas.Bool.{and_parts}
use Rattle.std.proofs.lemmas.Bool.Decides.{nat_tests}
use Rattle.live_model.specs.declared.records.PoiRec.{PoiRec}
use Rattle.live_model.specs.Rules.{is_category, is_category_byte}
use Rattle.live_model.proofs.CanonicalBytes.{ascii_utf8}
use Rattle.obf_wire.specs.Fields.{Window, part_of}
use Rattle.file_grammar.specs.declared.parts.Boxed.TheVariants.{Poi}
use Rattle.file_grammar.specs.declared.parts.Part.TheVariants.{Pois}
use Rattle.file_grammar.specs.BoxRules.{Beside, with_before}
use Rattle.file_grammar.specs.Facts.{AllHold, Fact}
use Rattle.file_grammar.specs.Messages.{Fields}
use Rattle.file_grammar.specs.PoiRules.{Group, group_facts, groups_facts, groups_in, poi_boxing, poi_read}
use Rattle.file_grammar.specs.Readings.{message_at}
use Rattle.file_grammar.specs.Sections.{Section}
use Rattle.boxed_laws.proofs.FittingRecords.{Holds, all_before, all_behind}
use Rattle.boxed_read.specs.Meeting.{InBoxes}
use Rattle.boxed_read.proofs.SectionRead.{section_boxed}
use Rattle.poi_section.specs.declared.kept.GroupKept.{GroupKept}
use Rattle.poi_section.specs.declared.kept.PoisKept.{PoisKept}
use Rattle.poi_section.specs.Groups.{AreGroupsKept, IsGroupKept}
use Rattle.poi_section.specs.PoiReading.{id_of, poi_is_read}
use Rattle.poi_section.specs.PoiSections.{ArePoisChecked, GroupRead, HoldGroups, HoldsGroup, category_in, group_kept, group_read}

-- ---- a category is UTF-8

small_byte : (c : ℕ) → is_category_byte c ≡ true → c < 128
small_byte c e = grind (arith, nat_tests, e)

small_bytes : (text : List ℕ) → list_all is_category_byte text ≡ true → AllByRecursion (λ b. b < 128) text
small_bytes [] e = tt
small_bytes (c ∷ cs) e =
    let both = and_parts (is_category_byte c) (list_all is_category_byte cs) e in
    (small_byte c both.0, small_bytes cs both.1)

category_utf8 : (text : List ℕ) → is_category text ≡ true → IsUtf8 text
category_utf8 text e = ascii_utf8 text (small_bytes text (and_parts (list_all is_category_byte text) _ e).0)

-- ---- groups

groups_hold : (beside : Beside) (bytes : List ℕ) (kept : List GroupKept) (groups : List Group) (prev : Option Group) → length beside.rules ≤ 100000 → AreGroupsKept beside bytes kept groups
    → AllHold (flat_map (group_facts beside) (with_before prev groups)) → HoldGroups bytes kept
groups_hold beside bytes [] groups prev few are all = tt
groups_hold beside bytes (k ∷ ks) [] prev few are all = absurd are
groups_hold beside bytes (k ∷ ks) (g ∷ gs) prev few are all =
    let here : List Fact = group_facts beside (prev, g) in
    let others : List Fact = flat_map (group_facts beside) (with_before (Some g) gs) in
    let holds : AllHold here = all_before Holds here others all in (
      record {
        inside = are.0.inside;
        utf8 = subst IsUtf8 (sym are.0.category) (category_utf8 g.category.value holds.1.0);
        within = are.0.within;
        checked = record { beside = beside; few = few; is = are.0.section };
      },
      groups_hold beside bytes ks gs (Some g) few are.1 (all_behind Holds here others all),
    )

-- every rule holds of each group
pub checked_groups : (w : Window) (kept : PoisKept) → ArePoisChecked w kept → HoldGroups w.bytes kept.groups.items
unfolding groups_facts
checked_groups w kept h = groups_hold h.beside w.bytes kept.groups.items (groups_in h.are.fields) None h.few h.are.groups h.are.sound

-- and of the one at an index
pub group_holds : (bytes : List ℕ) (kept : List GroupKept) (index : ℕ) (one : GroupKept) → HoldGroups bytes kept → slice_get kept index ≡ Some one → HoldsGroup bytes one
group_holds bytes [] index one all e = absurd cc
group_holds bytes (k ∷ ks) zero one all e = let same : k ≡ one = cc in subst (HoldsGroup bytes) same all.0
group_holds bytes (k ∷ ks) (suc index) one all e = group_holds bytes ks index one all.1 e

-- a group where it stands is read so
one_read : (beside : Beside) (bytes : List ℕ) (kept : GroupKept) (group : Group) → length beside.rules ≤ 100000 → IsGroupKept beside bytes kept group → group_kept bytes kept ≡ group_read group
one_read beside bytes kept group few k =
    ap (λ (section : InBoxes PoiRec). record { category = category_in bytes kept; section = section })
    (section_boxed Poi poi_boxing poi_read id_of poi_is_read (category_in bytes kept) (part_of bytes kept.records.from kept.records.to) kept.kept k.section.fields
    (record { beside = beside; few = few; is = k.section }) k.section.read)
    ∙ ap (λ (section : Section). group_read (record group { section = section; category = record group.category { value = category_in bytes kept } })) k.is
    ∙ ap (λ (text : List ℕ). group_read (record group { category = record group.category { value = text } })) k.category

groups_read : (beside : Beside) (bytes : List ℕ) (kept : List GroupKept) (groups : List Group) → length beside.rules ≤ 100000 → AreGroupsKept beside bytes kept groups → map (group_kept bytes) kept ≡ map group_read groups
groups_read beside bytes [] [] few are = refl
groups_read beside bytes [] (g ∷ gs) few are = absurd are
groups_read beside bytes (k ∷ ks) [] few are = absurd are
groups_read beside bytes (k ∷ ks) (g ∷ gs) few are =
    ap (λ (one : GroupRead). one ∷ map (group_kept bytes) ks) (one_read beside bytes k g few are.0)
    ∙ ap (λ (rest : List GroupRead). group_read g ∷ rest) (groups_read beside bytes ks gs few are.1)

-- what was kept of groups is where their records stand
pub pois_read : (w : Window) (kept : PoisKept) (fields : Fields) → ArePoisChecked w kept → message_at Pois w ≡ Ok fields → map (group_kept w.bytes) kept.groups.items ≡ map group_read (groups_in fields)
pois_read w kept fields h e =
    let same : h.are.fields ≡ fields = let both = sym h.are.read ∙ e in cc in
    groups_read h.beside w.bytes kept.groups.items (groups_in h.are.fields) h.few h.are.groups ∙ ap (λ (fs : Fields). map group_read (groups_in fs)) same
