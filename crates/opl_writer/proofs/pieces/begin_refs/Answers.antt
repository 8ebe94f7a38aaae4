use Rattle.std.proofs.Common.{rules, arith, ◌≡◌, ◌++◌, ◌∷◌, [], length, take, drop, get_or, ◌-◌, ◌≤◌, List, ℤ, pos, append_assoc, ap}
use Rattle.std.specs.Int.RustNames.{FitsSigned}
use Rattle.std.proofs.Common.{w64}
use Rattle.std.proofs.lemmas.Int.{to_z-of_z}
use Rattle.std.proofs.lemmas.List.{take_rest}
use Rattle.std.specs.Fmt.{signed_decimal}
use Rattle.std.specs.List.{flat_map}
use Rattle.live_model.specs.CanonicalLines.{ref_text, listed}
use Rattle.opl_writer.proofs.pieces.begin_refs.Goals as goal

-- a list with a first element is written as that and the others
listed_first : (xs : List ℤ) → 1 ≤ length xs
    → (110 ∷ signed_decimal (get_or xs 0 (pos 0))) ++ flat_map (λ n. 44 ∷ ref_text n) (take (length xs - 1) (drop 1 xs)) ≡ listed ref_text xs
unfolding ref_text
listed_first [] h = absurd (omega arith)
listed_first (x ∷ xs) h =
    let rest : take (length (x ∷ xs) - 1) xs ≡ xs = take_rest (x ∷ xs) 1 in
    ap (λ ys. (110 ∷ signed_decimal x) ++ flat_map (λ n. 44 ∷ ref_text n) ys) rest

pub returns-clause-ok : goal.returns-clause-ok
returns-clause-ok c =
    let fits : FitsSigned w64 (get_or c.args.refs.now 0 (pos 0)) = search rules in
    let first = rw (to_z-of_z w64 (get_or c.args.refs.now 0 (pos 0)) fits) at c.in_ok-begin_ref.ensures.ok in
    let all = simp (first, c.in_ok-put_bytes.ensures.ok, append_assoc) at c.begin_other_refs.ensures.ok in
    rw (← listed_first c.args.refs.now c.in-len1-up.len_at_least) all
