-- What a buffer had still stands at its front.
use Rattle.std.proofs.Common.{◌≡◌, ℕ, List, [], ◌∷◌, ◌++◌, length, take, refl}
use Rattle.std.proofs.Math.Seq.{take-append_seam}

front_taken : (old mid new : List ℕ) → take (length old) mid ≡ old → take (length mid) new ≡ mid → take (length old) new ≡ old
front_taken [] mid new e h = refl
front_taken (x ∷ xs) [] new e h = cc
front_taken (x ∷ xs) (y ∷ ys) [] e h = cc
front_taken (x ∷ xs) (y ∷ ys) (z ∷ zs) e h =
    let first : z ≡ x = cc in
    let inner : take (length xs) ys ≡ xs = cc in
    let outer : take (length ys) zs ≡ ys = cc in
    let rest : take (length xs) zs ≡ xs = front_taken xs ys zs inner outer in
    cc

-- more stands behind it
pub front_longer : (old mid more : List ℕ) → take (length old) mid ≡ old → take (length old) (mid ++ more) ≡ old
front_longer old mid more e = front_taken old mid (mid ++ more) e (take-append_seam mid more)

-- it is the front of a front
pub front_of_longer : (old more new : List ℕ) → take (length (old ++ more)) new ≡ old ++ more → take (length old) new ≡ old
front_of_longer old more new h = front_taken old (old ++ more) new (take-append_seam old more) h
