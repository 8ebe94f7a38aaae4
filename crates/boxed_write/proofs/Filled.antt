-- Fields that are begun, filled part by part, and ended.
use Rattle.std.proofs.Common.{◌≡◌, ◌≤◌, ℕ, List, ◌++◌, length, ap, ◌∙◌, arith, append_assoc, length-append}

-- what a first part and a second one make of what was there
pub two_put : (from one two out1 out2 out3 : List ℕ) → out1 ≡ from → out2 ≡ out1 ++ one → out3 ≡ out2 ++ two → out3 ≡ from ++ (one ++ two)
two_put from one two out1 out2 out3 first next last =
    last ∙ ap (λ (t : List ℕ). t ++ two) (next ∙ ap (λ (t : List ℕ). t ++ one) first) ∙ append_assoc from one two

-- the payload begins within what was written since
pub within : (start : ℕ) (out1 more out2 : List ℕ) → start ≡ length out1 → out2 ≡ out1 ++ more → start ≤ length out2
within start out1 more out2 at is = let whole = ap length is ∙ length-append out1 more in omega arith
