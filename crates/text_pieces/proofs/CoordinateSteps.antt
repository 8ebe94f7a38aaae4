-- The magnitude of a coordinate, by its parts.
use Rattle.std.proofs.Common.{◌≡◌, ℕ, ◌*◌, ◌-◌, ◌^◌, ◌≤◌, List, ◌++◌, length, ◌∙◌, ap, replicate}
use Rattle.text_pieces.specs.Numbers.{decimal_after}
use Rattle.text_pieces.specs.Coordinates.{magnitude, whole_part, fraction_part}
use Rattle.text_pieces.proofs.NumberSteps.{decimal_after_ge, decimal_after-append, decimal_after-zeros}

pub magnitude_is : (bytes : List ℕ) → magnitude bytes ≡ decimal_after (decimal_after 0 (whole_part bytes)) (fraction_part bytes) * 10 ^ (7 - length (fraction_part bytes))
magnitude_is bytes =
    decimal_after-append 0 (whole_part bytes ++ fraction_part bytes) (replicate (7 - length (fraction_part bytes)) 48)
    ∙ decimal_after-zeros (decimal_after 0 (whole_part bytes ++ fraction_part bytes)) (7 - length (fraction_part bytes))
    ∙ ap (λ n. n * 10 ^ (7 - length (fraction_part bytes))) (decimal_after-append 0 (whole_part bytes) (fraction_part bytes))

-- the zeros that fill the fraction up make it no smaller
pub magnitude_ge : (bytes : List ℕ) → decimal_after (decimal_after 0 (whole_part bytes)) (fraction_part bytes) ≤ magnitude bytes
magnitude_ge bytes =
    rw (decimal_after-append 0 (whole_part bytes ++ fraction_part bytes) (replicate (7 - length (fraction_part bytes)) 48), decimal_after-append 0 (whole_part bytes) (fraction_part bytes))
    (decimal_after_ge (decimal_after (decimal_after 0 (whole_part bytes)) (fraction_part bytes)) (replicate (7 - length (fraction_part bytes)) 48))
