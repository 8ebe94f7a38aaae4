use Rattle.std.proofs.Common.{◌≡◌, ◌∙◌, ap, sym, arith, length, map}
use Rattle.layer_table.specs.Layers.{key_of}
use Rattle.ref_index.proofs.Pairing.{first_parts}
use Rattle.ref_index.proofs.pairs.Pairs.keys.Goals as goal

pub returns : goal.returns
returns c =
    let ks = c.self.inside.targets.items in
    let us = c.self.inside.users.items in
    let same : length ks ≡ length us = omega (arith, c.self.invariant.0, c.self.inside.targets.ok.0, c.self.inside.users.ok.0) in
    c.deref.ensures.value ∙ sym (first_parts ks us same) ∙ ap (map key_of) c.self.view_is
