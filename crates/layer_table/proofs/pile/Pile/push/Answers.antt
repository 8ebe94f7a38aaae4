use Rattle.std.proofs.Common.{◌≡◌, ◌∷◌, ◌++◌, [], ◌∙◌, ap, arith, length, zip}
use Rattle.layer_table.proofs.Piling.{zip_end}
use Rattle.layer_table.proofs.pile.Pile.push.Goals as goal

pub returns-clause-changes : goal.returns-clause-changes
returns-clause-changes g c =
    let room = ap (λ p. p.room) c.self.view_is in
    let same : length c.self.inside.keys.items ≡ length c.self.inside.values.items = omega (arith, c.self.invariant.0, c.self.inside.keys.ok.0, c.self.inside.values.ok.0) in
    let key_ok = c.push.ensures.succeeds (omega (arith, room, c.requires, c.self.invariant.1.0)) in
    let value_ok = c.push-2.ensures.succeeds (omega (arith, room, c.requires, c.self.invariant.1.1)) in
    let keys : c.push.new.self.items ≡ c.self.inside.keys.items ++ c.args.key ∷ [] = rw key_ok at c.push.ensures.items in
    let values : c.push-2.new.self.items ≡ c.self.inside.values.items ++ c.args.value ∷ [] = rw value_ok at c.push-2.ensures.items in
    (λ i. zip (keys i) (values i))
    ∙ zip_end c.self.inside.keys.items c.self.inside.values.items c.args.key c.args.value same
    ∙ ap (λ p. p.changes ++ (c.args.key, c.args.value) ∷ []) c.self.view_is
