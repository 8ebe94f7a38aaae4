use Rattle.std.proofs.Common.{◌≡◌, ◌<◌, length, ◌++◌, ◌∷◌, [], sym, ap, ◌∙◌, arith, List, append_assoc}
use Rattle.std.proofs.lemmas.Bool.Decides.{nat_tests}
use Rattle.live_model.specs.declared.points.Rect.{Rect}
use Rattle.box_tree.specs.Trees.{level_above, levels_of}
use Rattle.box_tree.proofs.Levels.{levels_none, levels_one, levels_more, length_above}
use Rattle.box_tree.proofs.tree.built.Goals as goal

pub returns-then-is_empty : goal.returns-then-is_empty
returns-then-is_empty c = c.new-all.ensures.items ∙ sym (levels_none c.args.leaves.now (grind (arith, nat_tests, c.is_empty.ensures, c.if-is_empty.true)))

pub top-smaller : goal.top-smaller
top-smaller c =
    let long = length_above c.top.top in
    let many : 1 < length c.top.top = omega arith in
    let is : c.in_ok-above.above ≡ level_above c.top.top = c.in_ok-above.ensures ∙ ap level_above c.as_slice.ensures in
    omega (arith, ap length is)

pub top-preserved : goal.top-preserved
top-preserved c =
    let many : 1 < length c.top.top = omega arith in
    let long = length_above c.top.top in
    let is : c.in_ok-above.above ≡ level_above c.top.top = c.in_ok-above.ensures ∙ ap level_above c.as_slice.ensures in (
      ap (λ (ls : List (List Rect)). ls ++ levels_of c.in_ok-above.above) c.in_ok-push.ensures.items
          ∙ append_assoc c.top.all.items (c.top.top ∷ []) (levels_of c.in_ok-above.above)
          ∙ ap (λ (b : List Rect). c.top.all.items ++ c.top.top ∷ levels_of b) is
          ∙ ap (λ (ls : List (List Rect)). c.top.all.items ++ ls) (sym (levels_more c.top.top many))
          ∙ c.top.invariant.0,
      omega (arith, ap length is),
    )

pub returns : goal.returns
returns c =
    let one : length c.top.top ≡ 1 = omega (arith, c.top.invariant.1) in
    c.in_ok-push-2.ensures.items ∙ ap (λ (ls : List (List Rect)). c.top.all.items ++ ls) (sym (levels_one c.top.top one)) ∙ c.top.invariant.0
