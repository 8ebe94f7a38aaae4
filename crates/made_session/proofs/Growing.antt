-- One more of what is drawn in turn.
use Rattle.std.proofs.Common.{arith, ◌≡◌, ℕ, ◌+◌, ◌*◌, List, [], ◌∷◌, ◌++◌, length, map, pos, ap, sym, subst, ◌∙◌}
use Rattle.std.specs.List.{AllByRecursion, range_with_len}
use Rattle.std.proofs.lemmas.List.{append_assoc, length-append}
use Rattle.std.proofs.lemmas.List.FromFn.{map-range_with_len_more}
use Rattle.live_model.specs.declared.objects.Line.{Line}
use Rattle.made_session.specs.Draws.{drawn, state_after}
use Rattle.made_session.specs.Loads.{base_nodes, base_ways, drawn_node, drawn_refs, drawn_way, moved_node, moved_nodes, made_change, made_changes}

pub one_more_node : (s n : ℕ) → base_nodes s (n + 1) ≡ base_nodes s n ++ drawn_node (state_after s (2 * n)) (n + 1) 1 ∷ []
unfolding base_nodes
one_more_node s n = map-range_with_len_more (λ i. drawn_node (state_after s (2 * i)) (i + 1) 1) 0 n n (omega arith)

pub one_more_way : (s n : ℕ) → base_ways s (n + 1) ≡ base_ways s n ++ drawn_way (state_after s (5 * n)) (n + 1) ∷ []
unfolding base_ways
one_more_way s n = map-range_with_len_more (λ i. drawn_way (state_after s (5 * i)) (i + 1)) 0 n n (omega arith)

pub one_more_ref : (s n : ℕ) → drawn_refs s (n + 1) ≡ drawn_refs s n ++ pos (1 + drawn s n 2000) ∷ []
unfolding drawn_refs
one_more_ref s n = map-range_with_len_more (λ i. pos (1 + drawn s i 2000)) 0 n n (omega arith)

pub one_more_move : (s hour n : ℕ) → moved_nodes s hour (n + 1) ≡ moved_nodes s hour n ++ moved_node (state_after s (3 * n)) (hour + 1) ∷ []
unfolding moved_nodes
one_more_move s hour n = map-range_with_len_more (λ i. moved_node (state_after s (3 * i)) (hour + 1)) 0 n n (omega arith)

pub one_more_change : (s n : ℕ) → made_changes s (n + 1) ≡ made_changes s n ++ made_change (state_after s (32 * n)) (n + 1) ∷ []
unfolding made_changes
one_more_change s n = map-range_with_len_more (λ i. made_change (state_after s (32 * i)) (i + 1)) 0 n n (omega arith)

-- a list with one more item at its end is what it was, then one more
pub grown : {A : Type 0} (old now next f g : List A) (x y : A) → now ≡ old ++ f → next ≡ now ++ x ∷ [] → x ≡ y → g ≡ f ++ y ∷ [] → next ≡ old ++ g
grown old now next f g x y a b c d =
    b ∙ ap (λ ys. ys ++ x ∷ []) a ∙ append_assoc old f (x ∷ []) ∙ ap (λ z. old ++ (f ++ z ∷ [])) c ∙ ap (λ ys. old ++ ys) (sym d)

-- what holds of each item, and of the one at the end, holds of each
all_snoc : {A : Type 0} (P : A → Type 0) (xs : List A) (x : A) → AllByRecursion P xs → P x → AllByRecursion P (xs ++ x ∷ [])
all_snoc P [] x all here = (here, tt)
all_snoc P (y ∷ ys) x all here = (all.0, all_snoc P ys x all.1 here)

pub all_more : {A : Type 0} (P : A → Type 0) (xs ys : List A) (x : A) → ys ≡ xs ++ x ∷ [] → AllByRecursion P xs → P x → AllByRecursion P ys
all_more P xs ys x e all here = subst (AllByRecursion P) (sym e) (all_snoc P xs x all here)

-- one more item
pub count_more : {A : Type 0} (xs ys : List A) (x : A) (n : ℕ) → ys ≡ xs ++ x ∷ [] → length xs ≡ n → length ys ≡ n + 1
count_more xs ys x n e count = ap length e ∙ length-append xs (x ∷ []) ∙ ap (λ k. k + 1) count
