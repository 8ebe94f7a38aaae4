use Rattle.std.proofs.Common.{◌≡◌, [], ap, ◌∙◌}
use Rattle.tag_rules.specs.Matching.{first_from, earlier}
use Rattle.tag_rules.specs.Order.{wants}
use Rattle.tag_rules.proofs.Tags.{tag_from, wanted_by}
use Rattle.tag_rules.proofs.table.Rules.matching_tag.Goals as goal

pub returns : goal.returns
returns c =
    let rules = c.args.self.now in
    let t = c.args.tag.now in
    let any : c.first_place.result ≡ first_from (wants (wanted_by c.args.shape t.key [])) rules c.args.from =
    c.first_place.ensures.first ∙ ap (λ k. first_from (wants (wanted_by c.args.shape k [])) rules c.args.from) c.as_bytes.ensures
    in
    let just : c.first_place-2.result ≡ first_from (wants (wanted_by c.args.shape t.key t.value)) rules c.args.from =
    c.first_place-2.ensures.first ∙ ap (λ k. first_from (wants (wanted_by c.args.shape k c.as_bytes-3.result.now)) rules c.args.from) c.as_bytes-2.ensures
    ∙ ap (λ v. first_from (wants (wanted_by c.args.shape t.key v)) rules c.args.from) c.as_bytes-3.ensures
    in
    c.earlier.ensures ∙ ap (λ a. earlier a c.first_place-2.result) any ∙ ap (earlier (first_from (wants (wanted_by c.args.shape t.key [])) rules c.args.from)) just
    ∙ tag_from rules c.args.shape t c.args.from c.first_place.ensures.each
