-- The next rule of a table that matches an object.
use Rattle.std.proofs.Common.{◌≡◌, ℕ, ◌+◌, ◌-◌, ◌<◌, ◌≤◌, List, [], ◌∷◌, length, take, drop, get_or, Option, None, Some, find, refl, sym, ◌∙◌, ap, subst, arith, ◌||◌}
use Rattle.std.proofs.lemmas.List.{take_all}
use Rattle.std.specs.Option.{option_map, IfSome}
use Rattle.std.specs.List.{enumerate_from}
use Rattle.live_model.specs.declared.objects.Tag.{Tag}
use Rattle.live_model.specs.declared.shapes.Shape.{Shape}
use Rattle.live_model.specs.declared.rules.Rule.{Rule}
use Rattle.live_model.specs.Rules.{matches}
use Rattle.tag_rules.specs.Matching.{matching_from}
use Rattle.object_geometry.specs.Matching.{lesser, first_from, matches_any}
use Rattle.object_geometry.proofs.Places.{drop-enumerate_from, lesser_assoc, either, within}

first_of_more : (rules : List Rule) (tags : List Tag) (from : ℕ) (s : Shape) (ss : List Shape) → lesser (matching_from rules s tags from) (first_from rules ss tags from) ≡ first_from rules (s ∷ ss) tags from
first_of_more rules tags from s ss =
    let p = λ (r : ℕ × Rule). matches r.1 s tags in
    let q = matches_any ss tags in
    subst (λ es. lesser (option_map (λ r. r.0) (find p es)) (option_map (λ r. r.0) (find q es)) ≡ option_map (λ r. r.0) (find (λ r. p r || q r) es))
    (sym (drop-enumerate_from from 0 rules)) (either p q (0 + from) (drop from rules))

-- the shape at the front and those behind it
front_shape : (rules : List Rule) (tags : List Tag) (from : ℕ) (rest : List Shape) (d : Shape) → 1 ≤ length rest → lesser (matching_from rules (get_or rest 0 d) tags from) (first_from rules (take (length rest - 1) (drop 1 rest)) tags from) ≡ first_from rules rest tags from
front_shape rules tags from [] d some = absurd (omega arith)
front_shape rules tags from (s ∷ ss) d some =
    let all = take_all (length (s ∷ ss) - 1) ss (omega arith) in
    ap (λ xs. lesser (matching_from rules s tags from) (first_from rules xs tags from)) all ∙ first_of_more rules tags from s ss

pub first_of_rest : (rules : List Rule) (tags : List Tag) (from : ℕ) (rest : List Shape) (d : Shape) (first here next whole : Option ℕ) → 1 ≤ length rest → here ≡ matching_from rules (get_or rest 0 d) tags from → next ≡ lesser first here → lesser first (first_from rules rest tags from) ≡ whole → lesser next (first_from rules (take (length rest - 1) (drop 1 rest)) tags from) ≡ whole
first_of_rest rules tags from rest d first here next whole some found least before =
    let others = first_from rules (take (length rest - 1) (drop 1 rest)) tags from in
    ap (λ o. lesser o others) least ∙ lesser_assoc first here others
    ∙ ap (lesser first) (ap (λ o. lesser o others) found ∙ front_shape rules tags from rest d some)
    ∙ before

lesser_none : (o : Option ℕ) → lesser o None ≡ o
lesser_none None = refl
lesser_none (Some n) = refl

none_for_no_shape : (es : List (ℕ × Rule)) (tags : List Tag) → find (matches_any [] tags) es ≡ None
none_for_no_shape [] tags = refl
none_for_no_shape (e ∷ es) tags = none_for_no_shape es tags

pub first_of_none : (rules : List Rule) (tags : List Tag) (from : ℕ) (rest : List Shape) (first whole : Option ℕ) → length rest < 1 → lesser first (first_from rules rest tags from) ≡ whole → first ≡ whole
first_of_none rules tags from [] first whole few before =
    sym (lesser_none first) ∙ ap (λ o. lesser first (option_map (λ r. r.0) o)) (sym (none_for_no_shape (drop from (enumerate_from 0 rules)) tags)) ∙ before
first_of_none rules tags from (s ∷ ss) first whole few before = absurd (omega arith)

pub first_within : (rules : List Rule) (shapes : List Shape) (tags : List Tag) (from : ℕ) (first : Option ℕ) → first ≡ first_from rules shapes tags from → IfSome first (λ i. i < length rules)
first_within rules shapes tags from first found = subst (λ o. IfSome o (λ i. i < length rules)) (sym found) (within (matches_any shapes tags) from rules)
