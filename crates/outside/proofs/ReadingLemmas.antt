-- The bytes of readings.
use Rattle.std.proofs.Common.{◌≡◌, List, [], ◌∷◌, ◌++◌, sym, ap, ◌∙◌, append-nil}
use Rattle.std.proofs.lemmas.List.{append_assoc}
use Rattle.outside.specs.Readings.{Reading, bytes_given}

-- one more reading puts its bytes behind the others
pub bytes_given_push : (readings : List Reading) (last : Reading) → bytes_given (readings ++ last ∷ []) ≡ bytes_given readings ++ last.bytes
bytes_given_push [] last = append-nil last.bytes
bytes_given_push (first ∷ readings) last = ap (λ bytes. first.bytes ++ bytes) (bytes_given_push readings last) ∙ sym (append_assoc first.bytes (bytes_given readings) last.bytes)
