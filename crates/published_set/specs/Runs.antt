-- Runs of numbers among others.
use Rattle.std.specs.Prelude.{ℕ, ◌+◌, ◌==◌, List, [], ◌∷◌, Bool, false, not, Option, if◌then◌else◌, find}
use Rattle.std.specs.List.{list_any, starts_with}

-- the first of these names that is none of the numbers
abbrev pub first_missing : List ℕ → List ℕ → Option ℕ
first_missing names numbers = find (λ n. not (list_any (λ m. m == n) numbers)) names

-- the numbers begin with these names, of which there is one at least
abbrev pub begins_run : List ℕ → List ℕ → Bool
begins_run [] numbers = false
begins_run (n ∷ ns) numbers = starts_with (λ a b. a == b) numbers (n ∷ ns)

-- how many numbers stand before the first run of these names; as many as there are where there is none
abbrev pub before_run : List ℕ → List ℕ → ℕ
before_run names [] = 0
before_run names (n ∷ ns) = if begins_run names (n ∷ ns) then 0 else 1 + before_run names ns
