-- What may come into a set of two days: no hour that is not after all that are there.
use Rattle.std.proofs.Common.{◌≡◌, ◌<◌, ℕ, [], ◌∷◌, Option, Some, None, map, refl, ap, arith}
use Rattle.live_model.specs.declared.levels.Level.TheVariants.{Hour}
use Rattle.stamp_core.specs.Hours.{CivilHour, civil_hour, number_of}
use Rattle.overlay_set.specs.Sets.{Entry, Image, State, base_image, run_image}
use Rattle.overlay_set.specs.Swaps.{Add, Takes}

-- a publication that changes nothing
abbrev quiet : CivilHour → Entry
quiet hour = record { stamp = hour; tag = 0; lines = [] }

abbrev at : ℕ → ℕ → CivilHour
at day hour = civil_hour 2024 1 day hour

-- the hour file of such a publication
abbrev image_of : Entry → Image
image_of entry = run_image [] [] Hour (entry ∷ [])

-- two hours of the first day and one of the next, each with its file
abbrev two_days : State
two_days = record {
  history = map quiet (at 1 0 ∷ at 1 5 ∷ at 2 0 ∷ []);
  files = record { number = 0; image = base_image [] [] } ∷ record { number = 1; image = image_of (quiet (at 1 0)) } ∷ record { number = 2; image = image_of (quiet (at 1 5)) }
      ∷ record { number = 3; image = image_of (quiet (at 2 0)) } ∷ [];
}

later_is_taken : Takes [] [] two_days (Add (quiet (at 2 1)) (image_of (quiet (at 2 1))))
later_is_taken = ((omega arith, (omega arith, (omega arith, tt))), refl)

-- an hour between two that are there
earlier_is_not : (image : Image) → Takes [] [] two_days (Add (quiet (at 1 6)) image) → ⊥
earlier_is_not image takes = let before : number_of (at 2 0) < number_of (at 1 6) = takes.0.1.1.0 in omega (arith, before)

-- the last hour once more
same_is_not : (image : Image) → Takes [] [] two_days (Add (quiet (at 2 0)) image) → ⊥
same_is_not image takes = let before : number_of (at 2 0) < number_of (at 2 0) = takes.0.1.1.0 in omega (arith, before)

-- the number of an hour, and 0 where there is none
abbrev number_in : Option CivilHour → ℕ
number_in None = 0
number_in (Some hour) = number_of hour

-- a later hour with the file of another
other_file_is_not : Takes [] [] two_days (Add (quiet (at 2 1)) (image_of (quiet (at 2 0)))) → ⊥
other_file_is_not takes = let same : number_of (at 2 0) ≡ number_of (at 2 1) = ap (λ (i : Image). number_in i.head.first) takes.1 in omega (arith, same)
