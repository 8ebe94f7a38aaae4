use Rattle.std.proofs.Common.{◌≡◌, ◌∙◌, ap, arith, length}
use Rattle.std.specs.Option.{option_map}
use Rattle.layer_table.specs.Layers.{key_of, last_of}
use Rattle.layer_table.proofs.Piling.{last_read, last_zipped}
use Rattle.layer_table.proofs.pile.Pile.last_key.Goals as goal

pub returns : goal.returns
returns g c =
    let same : length c.self.inside.keys.items ≡ length c.self.inside.values.items = omega (arith, c.self.invariant.0, c.self.inside.keys.ok.0, c.self.inside.values.ok.0) in
    c.last.ensures.value ∙ last_read c.deref.result.now ∙ ap last_of c.deref.ensures.value
    ∙ last_zipped c.self.inside.keys.items c.self.inside.values.items same
    ∙ ap (λ p. option_map key_of (last_of p.changes)) c.self.view_is
