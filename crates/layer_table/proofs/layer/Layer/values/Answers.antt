use Rattle.std.proofs.Common.{◌∙◌, ap, map}
use Rattle.layer_table.specs.Layers.{value_of}
use Rattle.layer_table.proofs.Going.{zip_values}
use Rattle.layer_table.proofs.layer.Layer.values.Goals as goal

pub returns-clause-values : goal.returns-clause-values
returns-clause-values g c =
    c.as_slice.ensures.value ∙ zip_values c.self.inside.keys.items c.self.inside.values.items c.self.invariant.0 ∙ ap (map value_of) c.self.view_is
