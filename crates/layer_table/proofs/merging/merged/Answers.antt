use Rattle.std.proofs.Common.{◌≡◌, ◌++◌, ◌∷◌, [], false, sym, ap, ◌∙◌, arith, length, subst}
use Rattle.std.specs.Option.{option_to_list}
use Rattle.ordered_lists.specs.Ordered.{put_all}
use Rattle.layer_table.specs.Layers.{IsMap, key_of, kept, laid, under, changes_in}
use Rattle.layer_table.proofs.Stacking.{changes_end, merged_length, merged_rising, merge_step, nothing_below}
use Rattle.layer_table.proofs.merging.merged.Goals as goal
use Rattle.layer_table.proofs.merging.merged.Goals.{then-removals, else-removals}

pub merge-requires-clause-room : goal.merge-requires-clause-room
merge-requires-clause-room g c =
    let is : c.loop-layer.rest.items ≡ c.pop.new.self.items ++ c.in-Some.layer ∷ [] = c.pop.ensures.items ∙ ap (λ r. c.pop.new.self.items ++ option_to_list r) c.in-Some.is in
    let whole = ap changes_in is ∙ changes_end c.pop.new.self.items c.in-Some.layer in
    let here = ap length c.from_layer.ensures.changes in
    omega (arith, whole, here, c.loop-layer.invariant.out_room)

pub loop-layer-preserved : goal.loop-layer-preserved
loop-layer-preserved g c =
    let is : c.loop-layer.rest.items ≡ c.pop.new.self.items ++ c.in-Some.layer ∷ [] = c.pop.ensures.items ∙ ap (λ r. c.pop.new.self.items ++ option_to_list r) c.in-Some.is in
    let whole = ap changes_in is ∙ changes_end c.pop.new.self.items c.in-Some.layer in
    let here = ap length c.from_layer.ensures.changes in
    let changes : c.swap.new.x.changes ≡ kept c.if-removals.merge (put_all g.K.Ord.cmp key_of c.in-Some.layer c.loop-layer.upper.changes) =
    ap (λ p. p.changes) c.swap.ensures.x_after ∙ c.merge.ensures.changes ∙ ap (λ cs. kept c.if-removals.merge (put_all g.K.Ord.cmp key_of cs c.loop-layer.upper.changes)) c.from_layer.ensures.changes in
    let most = ap length changes in
    let least = merged_length g.K.Ord.cmp g.met.K.Ord.total c.if-removals.merge c.in-Some.layer c.loop-layer.upper.changes in
    let x_room = ap (λ p. p.room) c.swap.ensures.x_after in
    let x_len = ap (λ p. length p.changes) c.swap.ensures.x_after in
    let y_room = ap (λ p. p.room) c.swap.ensures.y_after in
    record {
      rising = subst (IsMap g.K.Ord.cmp) (sym changes) (merged_rising g.K.Ord.cmp g.met.K.Ord.total c.if-removals.merge c.in-Some.layer c.loop-layer.upper.changes c.from_layer.ensures.rising);
      empty = ap (λ p. p.changes) c.swap.ensures.y_after ∙ c.merge.ensures.emptied;
      upper_room = omega (arith, whole, most, least, x_room, x_len, c.merge.ensures.room, c.loop-layer.invariant.out_room);
      out_room = omega (arith, whole, most, least, y_room, c.merge.ensures.regained, c.loop-layer.invariant.upper_room);
      same = λ map rising bottom.
          ap (laid g.K.Ord.cmp (under g.K.Ord.cmp map c.pop.new.self.items)) changes
          ∙ merge_step g.K.Ord.cmp g.met.K.Ord.total c.if-removals.merge map c.loop-layer.rest.items c.pop.new.self.items c.in-Some.layer c.loop-layer.upper.changes rising c.from_layer.ensures.rising is
          (elim c.if-removals.branch as (λ _. c.if-removals.merge ≡ false → under g.K.Ord.cmp map c.pop.new.self.items ≡ []) [
            | then-removals w ↦ λ none. absurd (cc)
            | else-removals w ↦ λ none. nothing_below g.K.Ord.cmp g.met.K.Ord.total c.args.removals c.if-removals.merge c.is_empty-bottom.result map c.pop.new.self.items _ (sym c.pop.new.self.ok.0) c.is_empty-bottom.ensures w.merge-is bottom w.if-removals.false none
          ])
          ∙ c.loop-layer.invariant.same map rising bottom;
    }
