use Rattle.std.proofs.Common.{ap, sym, ◌∙◌, subst, Some}
use Rattle.std.specs.Option.{option_map}
use Rattle.live_model.specs.Objects.{AreTags}
use Rattle.live_model.specs.FieldValues.{tags_from}
use Rattle.opl_reader.proofs.TagSteps.{tags_from_rising}
use Rattle.opl_reader.proofs.tags.tags.Goals as goal

pub returns-then-rises-clause-tags : goal.returns-then-rises-clause-tags
returns-then-rises-clause-tags c =
    let rising : AreTags c.in_ok-pairs.pairs.items = subst AreTags c.as_slice.ensures.value c.if-rises.ensures in
    ap (option_map tags_from) (c.in_ok-pairs.ensures.pairs c.if-not-few.false) ∙ ap Some (tags_from_rising c.in_ok-pairs.pairs.items rising ∙ sym c.from_vec.ensures)
