use Rattle.std.proofs.Common.{◌≡◌, ◌∙◌, ◌++◌, ap, sym, arith, length}
use Rattle.std.specs.Option.{option_to_list}
use Rattle.layer_table.proofs.Piling.{zip_popped}
use Rattle.layer_table.proofs.pile.Pile.pop.Goals as goal

pub returns-clause-changes : goal.returns-clause-changes
returns-clause-changes g c =
    let same : length c.self.inside.keys.items ≡ length c.self.inside.values.items = omega (arith, c.self.invariant.0, c.self.inside.keys.ok.0, c.self.inside.values.ok.0) in
    sym (ap (λ p. p.changes) c.self.view_is)
    ∙ zip_popped c.self.inside.keys.items c.pop.new.self.items c.self.inside.values.items c.pop-2.new.self.items c.in-Some.key c.in-Some-pop.value same
    (c.pop.ensures.items ∙ ap (λ r. c.pop.new.self.items ++ option_to_list r) c.in-Some.is)
    (c.pop-2.ensures.items ∙ ap (λ r. c.pop-2.new.self.items ++ option_to_list r) c.in-Some-pop.is)
