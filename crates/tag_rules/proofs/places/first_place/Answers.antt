use Rattle.std.proofs.Common.{◌≤◌, length, sym, ap, ◌∙◌}
use Rattle.std.proofs.lemmas.Bool.{ltb-false}
use Rattle.tag_rules.specs.Order.{seen_want, want_cmp}
use Rattle.tag_rules.proofs.Search.{none_left, first_wanted, first_unwanted}
use Rattle.tag_rules.proofs.places.first_place.Goals as goal

pub returns-in_default : goal.returns-in_default
returns-in_default c =
    let past : length c.args.order.now ≤ c.count_before.result = ltb-false _ _ (sym c.in_default.ensures.lookup.0) in
    sym (none_left c.args.rules.now c.args.order.now c.requires (seen_want c.args.wanted.now) c.args.from c.count_before.result c.count_before.ensures past)

pub returns-in-Equal : goal.returns-in-Equal
returns-in-Equal c =
    let found = c.in-Some.ensures.lookup in
    sym (first_wanted c.args.rules.now c.args.order.now c.requires (seen_want c.args.wanted.now) c.args.from c.count_before.result c.count_before.ensures c.in-Some.place.now
    (record { near = found.3.0; value = λ d. sym (found.3.1 d) })
    (ap (λ w. want_cmp w (seen_want c.args.wanted.now)) (sym c.wanted_at.ensures) ∙ sym c.compare.ensures ∙ c.in-Equal.is))

pub returns-in_default-compare : goal.returns-in_default-compare
returns-in_default-compare c =
    let found = c.in-Some.ensures.lookup in
    sym (first_unwanted c.args.rules.now c.args.order.now c.requires (seen_want c.args.wanted.now) c.args.from c.count_before.result c.count_before.ensures c.in-Some.place.now
    (record { near = found.3.0; value = λ d. sym (found.3.1 d) })
    (λ e. c.in_default-compare.not-Equal (c.compare.ensures ∙ ap (λ w. want_cmp w (seen_want c.args.wanted.now)) c.wanted_at.ensures ∙ e)))
