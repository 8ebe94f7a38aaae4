use Rattle.std.proofs.Common.{◌≡◌, ◌∙◌, ap, arith, length, reverse, zip}
use Rattle.layer_table.proofs.Piling.{zip_reversed}
use Rattle.layer_table.proofs.pile.Pile.reverse.Goals as goal

pub returns-clause-changes : goal.returns-clause-changes
returns-clause-changes g c =
    let same : length c.self.inside.keys.items ≡ length c.self.inside.values.items = omega (arith, c.self.invariant.0, c.self.inside.keys.ok.0, c.self.inside.values.ok.0) in
    (λ i. zip (c.reverse.ensures.items i) (c.reverse-2.ensures.items i))
    ∙ zip_reversed c.self.inside.keys.items c.self.inside.values.items same
    ∙ ap (λ p. reverse p.changes) c.self.view_is
