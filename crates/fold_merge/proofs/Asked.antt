-- Images that can become one.
use Rattle.std.proofs.Common.{◌≡◌, ◌≢◌, ◌+◌, ◌≤◌, ◌<◌, ℕ, Bool, true, false, List, [], ◌∷◌, length, map, Option, Some, None, refl, sym, ap, subst, ◌∙◌}
use Rattle.std.specs.Prelude.{if◌then◌else◌, ◌==◌, not, bytes_eq}
use Rattle.std.specs.List.{AllByRecursion}
use Rattle.std.proofs.lemmas.Bool.{eq-eqb}
use Rattle.std.proofs.lemmas.Slice.Eq.{bytes_eq-Decides}
use Rattle.live_model.specs.declared.levels.Level.{Level}
use Rattle.live_model.specs.declared.levels.Level.TheVariants.{Base}
use Rattle.live_model.specs.declared.rules.Rule.{Rule}
use Rattle.live_model.specs.Levels.{level_number}
use Rattle.live_model.specs.MapLaws.{IsOverlay, MarksItsRecords}
use Rattle.live_model.specs.Rules.{IsRule, rules_text}
use Rattle.stamp_core.specs.Hours.{CivilHour}
use Rattle.file_order.specs.Folding.{is_in_period_of, not_fold, parts_asked}
use Rattle.file_order.specs.Runs.{Placed, first_failing, has_rules_of, is_after, is_base}
use Rattle.file_order.specs.declared.kinds.NotRun.{NotRun}
use Rattle.file_grammar.specs.Files.{rules_in}
use Rattle.obf_reader.specs.Images.{Seen}
use Rattle.obf_writer.proofs.RulesBack.{rules_again}
use Rattle.packed_image.specs.Overlays.{HoldsParts}
use Rattle.fold_merge.specs.Folds.{overlays_of, placed_of}

-- all that is asked of files beside the first, after one that ends at this hour
abbrev pub AreParts : Level → Placed → Option CivilHour → List Placed → Type 0
AreParts level first last [] = Unit {0}
AreParts level first last (f ∷ fs) =
    (not (is_base f) ≡ true) × ((has_rules_of f first ≡ true) × ((is_after last f.head.first ≡ true) × ((is_in_period_of level first f ≡ true) × AreParts level first f.head.last fs)))

held_so : (b : Bool) (r : Option NotRun) (told : NotRun) → (if b then r else Some told) ≡ None → (b ≡ true) × (r ≡ None)
held_so true r told e = (refl, e)
held_so false r told e = absurd cc

parts_are : (level : Level) (index : ℕ) (first : Placed) (last : Option CivilHour) (files : List Placed) → first_failing (parts_asked level index first last files) ≡ None → AreParts level first last files
parts_are level index first last [] e = tt
parts_are level index first last (f ∷ fs) e =
    let a = held_so (not (is_base f)) _ _ e in
    let b = held_so (has_rules_of f first) _ _ a.1 in
    let c = held_so (is_after last f.head.first) _ _ b.1 in
    let d = held_so (is_in_period_of level first f) _ _ c.1 in
    (a.0, (b.0, (c.0, (d.0, parts_are level (index + 1) first f.head.last fs d.1))))

pub fold_parts : (level : Level) (first : Seen) (images : List Seen) → not_fold level (map placed_of (first ∷ images)) ≡ None → AreParts level (placed_of first) None (map placed_of (first ∷ images))
fold_parts level first images e = parts_are level 0 (placed_of first) None (map placed_of (first ∷ images)) e

-- ---- each of them

pub not_base : (level : Level) → not (level_number level == 0) ≡ true → level ≢ Base
not_base level e is = let f = subst (λ (l : Level). not (level_number l == 0) ≡ true) is e in absurd cc

-- each lays an overlay
pub are_overlays : (level : Level) (first : Placed) (last : Option CivilHour) (images : List Seen) → AreParts level first last (map placed_of images) → AllByRecursion HoldsParts images → AllByRecursion IsOverlay (overlays_of images)
are_overlays level first last [] parts held = tt
are_overlays level first last (i ∷ is) parts held = (held.0.above (not_base i.head.level parts.0), are_overlays level first i.head.last is parts.1.1.1.1 held.1)

pub mark_theirs : (images : List Seen) → AllByRecursion IsOverlay (overlays_of images) → AllByRecursion MarksItsRecords (overlays_of images)
mark_theirs [] all = tt
mark_theirs (i ∷ is) all = (all.0.marked, mark_theirs is all.1)

-- rules with one canonical text are the same
same_some : (a b : List Rule) → Some a ≡ Some b → a ≡ b
same_some a b e = cc

same_rules : (a b : List Rule) → AllByRecursion IsRule a × (length a ≤ 100000) → AllByRecursion IsRule b × (length b ≤ 100000) → bytes_eq (rules_text a) (rules_text b) ≡ true → a ≡ b
same_rules a b good_a good_b e =
    same_some a b (sym (rules_again a good_a.0 good_a.1) ∙ ap rules_in ((bytes_eq-Decides (rules_text a) (rules_text b)).0 e) ∙ rules_again b good_b.0 good_b.1)

-- each has the rules of the first
abbrev pub HaveRules : List Rule → List Seen → Type 0
HaveRules rules images = AllByRecursion (λ i. i.rules ≡ rules) images

pub have_rules : (level : Level) (first : Seen) (last : Option CivilHour) (images : List Seen) → HoldsParts first → AreParts level (placed_of first) last (map placed_of images) → AllByRecursion HoldsParts images → HaveRules first.rules images
have_rules level first last [] own parts held = tt
have_rules level first last (i ∷ is) own parts held =
    (same_rules i.rules first.rules held.0.spelled own.spelled parts.1.0, have_rules level first i.head.last is own parts.1.1.1.1 held.1)
