use Rattle.std.proofs.Common.{◌≡◌, ◌+◌, ◌∷◌, [], ◌++◌, take, sym, ap, ◌∙◌}
use Rattle.std.proofs.lemmas.List.{take_more, take_all}
use Rattle.tag_rules.specs.Matching.{matching_from, earlier}
use Rattle.tag_rules.proofs.Tags.{none_from, more_from}
use Rattle.tag_rules.proofs.table.Rules.matching.Goals as goal

pub loop-tag-init : goal.loop-tag-init
loop-tag-init c = sym (none_from c.args.self.now c.args.shape c.args.from)

pub loop-tag-preserved : goal.loop-tag-preserved
loop-tag-preserved c =
    let tags = c.as_slice-tags.result.now in
    let i = c.loop-tag.tag-index in
    let t = c.tag-item.result in
    let longer : take (i + 1) tags ≡ take i tags ++ t ∷ [] = take_more tags i t c.loop-tag-test.true ∙ ap (λ x. take i tags ++ x ∷ []) (sym c.tag-item.is) in
    c.earlier-first.ensures ∙ ap (λ a. earlier a c.matching_tag.result) c.loop-tag.invariant
    ∙ ap (earlier (matching_from c.args.self.now c.args.shape (take i tags) c.args.from)) c.matching_tag.ensures
    ∙ more_from c.args.self.now c.args.shape (take i tags) t c.args.from
    ∙ ap (λ ts. matching_from c.args.self.now c.args.shape ts c.args.from) (sym longer)

pub returns : goal.returns
returns c =
    c.loop-tag.invariant
    ∙ ap (λ ts. matching_from c.args.self.now c.args.shape ts c.args.from) (take_all c.loop-tag.tag-index c.as_slice-tags.result.now c.loop-tag-test.false ∙ c.as_slice-tags.ensures)
