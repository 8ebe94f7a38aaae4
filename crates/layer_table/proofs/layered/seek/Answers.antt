use Rattle.std.proofs.Common.{◌-◌, ap, sym, ◌∙◌, Some, None, arith, length}
use Rattle.std.proofs.lemmas.List.{length-take}
use Rattle.std.specs.Option.{option_map}
use Rattle.layer_table.specs.Layers.{change_seen}
use Rattle.layer_table.proofs.Laying.{sought}
use Rattle.layer_table.proofs.layered.seek.Goals as goal

pub returns-in-Some : goal.returns-in-Some
returns-in-Some g c =
    c.with_value.ensures
    ∙ sought g.K.Ord.cmp g.met.K.Ord.total c.args.key.now c.loop-rest.rest.now c.args.layers.now c.layer-item.result (Some (change_seen (c.in-Some.key, c.in-Some.value))) c.loop-rest.invariant.same c.in-len1-up.len_at_least c.layer-item.is c.pair.ensures.rising
    (ap (option_map change_seen) (sym c.in-Some.is) ∙ c.pair.ensures.pair)

pub loop-rest-preserved : goal.loop-rest-preserved
loop-rest-preserved g c = record {
  same =
      sought g.K.Ord.cmp g.met.K.Ord.total c.args.key.now c.loop-rest.rest.now c.args.layers.now c.layer-item.result None c.loop-rest.invariant.same c.in-len1-up.len_at_least c.layer-item.is c.pair.ensures.rising
      (ap (option_map change_seen) (sym c.in_default-pair.is) ∙ c.pair.ensures.pair);
  shorter = let short = length-take (length c.loop-rest.rest.now - 1) c.loop-rest.rest.now in omega (arith, short, c.loop-rest.invariant.shorter);
}
