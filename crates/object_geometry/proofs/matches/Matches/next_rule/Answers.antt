use Rattle.std.proofs.Common.{◌<◌, sym, ◌∙◌, ap, subst, length, slice_get, Some}
use Rattle.std.proofs.lemmas.Option.{slice_get-get_or}
use Rattle.object_geometry.specs.Matching.{matches_any}
use Rattle.object_geometry.proofs.Places.{none_to_come, next_to_come}
use Rattle.object_geometry.proofs.matches.Matches.next_rule.Goals as goal

pub returns-in_default : goal.returns-in_default
returns-in_default c =
    sym c.self.view_is
    ∙ none_to_come (matches_any c.self.inside.shapes.now c.self.inside.tags.now) c.self.inside.from c.self.inside.rules.now (sym c.in_default.ensures.first)

pub returns : goal.returns
returns c =
    let inside = subst (λ rules. c.in-Some.index < length rules) (sym c.as_slice-rules.ensures.list) c.in-Some.ensures.within in
    let rule = slice_get-get_or c.as_slice-rules.result.now c.in-Some.index c.index-rules-index.result inside in
    sym c.self.view_is
    ∙ next_to_come (matches_any c.self.inside.shapes.now c.self.inside.tags.now) c.self.inside.from c.in-Some.index c.index-rules-index.result c.self.inside.rules.now (sym c.in-Some.ensures.first)
    (ap (λ rules. slice_get rules c.in-Some.index) (sym c.as_slice-rules.ensures.list) ∙ rule ∙ ap Some (sym c.index-rules-index.is))
