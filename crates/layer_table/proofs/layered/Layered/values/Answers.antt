use Rattle.std.proofs.Common.{◌≡◌, ◌∙◌, [], ap, sym, map, length, arith}
use Rattle.layer_table.specs.Layers.{under, value_of, values_set}
use Rattle.layer_table.proofs.Going.{all_values, alone_values, one_item}
use Rattle.layer_table.proofs.layered.Layered.values.Goals as goal

pub returns-in-len1 : goal.returns-in-len1
returns-in-len1 g c =
    let one : length c.as_slice.result.now ≡ 1 = omega (arith, c.in-len1.len_at_least, c.in-len1.len_below) in
    c.alone.ensures ∙ ap values_set c.values.ensures.values
    ∙ alone_values g.K.Ord.cmp g.met.K.Ord.total c.layer-item.result c.values.ensures.rising
    ∙ ap (λ ls. map value_of (under g.K.Ord.cmp [] ls)) (sym (one_item c.as_slice.result.now c.layer-item.result one c.layer-item.is) ∙ c.as_slice.ensures.value)
    ∙ ap (λ t. map value_of t.map) c.self.view_is

pub returns-in_default : goal.returns-in_default
returns-in_default g c = c.among.ensures ∙ all_values g.K.Ord.cmp g.met.K.Ord.total c.args.self.now.map
