use Rattle.std.proofs.Common.{◌≡◌, ◌++◌, ◌∷◌, [], ◌∙◌, ap, take, arith}
use Rattle.layer_table.specs.Layers.{under, laid}
use Rattle.layer_table.proofs.Laying.{rising_under}
use Rattle.layer_table.proofs.Stacking.{merged_same, none_kept}
use Rattle.layer_table.proofs.layered.Layered.merge_above.Goals as goal

pub returns-clause-map : goal.returns-clause-map
returns-clause-map g c =
    let all = c.self.inside.layers.items in
    let base = under g.K.Ord.cmp [] (take c.args.kept all) in
    let ok = c.push.ensures.succeeds (omega (arith, c.self.invariant.0, c.in_ok-above.ensures.len, c.in_ok-above.ensures.capacity, c.if-len-kept.false, c.len.ensures)) in
    let items : c.push.new.self.items ≡ c.split_off.new.self.items ++ c.into_layer-one.result ∷ [] = rw ok at c.push.ensures.items in
    let same = c.merged.ensures.same base (rising_under g.K.Ord.cmp g.met.K.Ord.total [] (take c.args.kept all) tt) (λ none. none_kept g.K.Ord.cmp g.met.K.Ord.total c.args.kept all none) in
    merged_same g.K.Ord.cmp g.met.K.Ord.total c.args.kept all c.push.new.self.items c.into_layer-one.result
    (items ∙ ap (λ ls. ls ++ c.into_layer-one.result ∷ []) c.in_ok-above.ensures.items)
    (ap (laid g.K.Ord.cmp base) c.into_layer-one.ensures ∙ same ∙ ap (under g.K.Ord.cmp base) c.in_ok-above.ensures.tail)
    ∙ ap (λ t. t.map) c.self.view_is
