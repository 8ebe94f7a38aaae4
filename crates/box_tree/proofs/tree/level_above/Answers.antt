use Rattle.std.proofs.Common.{◌≡◌, ◌+◌, ◌/◌, length, ◌++◌, ◌∷◌, [], sym, ap, ◌∙◌, arith, map, ℕ, List}
use Rattle.std.specs.List.{range_with_len}
use Rattle.std.proofs.lemmas.List.FromFn.{map-range_with_len_more}
use Rattle.live_model.specs.declared.points.Rect.{Rect}
use Rattle.box_tree.specs.Trees.{node_above, level_above}
use Rattle.box_tree.proofs.tree.level_above.Goals as goal

pub loop-place-preserved : goal.loop-place-preserved
loop-place-preserved c =
    let f : ℕ → Rect = node_above c.args.boxes.now in
    c.in_ok-push.ensures.items
    ∙ ap (λ (xs : List Rect). xs ++ c.node_above.result ∷ []) c.loop-place.invariant
    ∙ ap (λ (x : Rect). map f (range_with_len 0 c.loop-place.place) ++ x ∷ []) c.node_above.ensures
    ∙ sym (map-range_with_len_more f 0 c.loop-place.place c.loop-place.place (omega arith))

pub returns : goal.returns
unfolding level_above
returns c =
    let f : ℕ → Rect = node_above c.args.boxes.now in
    let count : c.loop-place.place ≡ (length c.args.boxes.now + 7) / 8 = omega arith in
    c.from_vec.ensures ∙ c.loop-place.invariant ∙ ap (λ (n : ℕ). map f (range_with_len 0 n)) count
