-- Which words ask for a change.
use Rattle.std.proofs.Common.{◌≡◌, ℕ, List, Option, Some, None, ap, arith, refl, sym, ◌∙◌, [], ◌∷◌, ◌++◌, length}
use Rattle.std.specs.Option.{option_map}
use Rattle.stamp_core.specs.Hours.{CivilHour}
use Rattle.hour_words.specs.HourWords.{hour_of}
use Rattle.run_model.specs.Requests.{asked_change, change_map}

-- no change is none
pub no_change : (rules base stamp output : List ℕ) (changes : List (List ℕ)) → length changes ≡ 0 → asked_change rules base stamp output changes ≡ None
no_change rules base stamp output [] none = refl
no_change rules base stamp output (change ∷ changes) none = absurd (omega arith)

-- a last change, and those before it
pub last_change : (rules base stamp output : List ℕ) (changes earlier : List (List ℕ)) (last : List ℕ) → changes ≡ earlier ++ last ∷ []
    → asked_change rules base stamp output changes ≡ option_map (λ hour. change_map rules base hour output (earlier ++ last ∷ [])) (hour_of stamp)
last_change rules base stamp output changes earlier last are = ap (asked_change rules base stamp output) are ∙ whole earlier
  where
    whole : (earlier : List (List ℕ)) → asked_change rules base stamp output (earlier ++ last ∷ []) ≡ option_map (λ hour. change_map rules base hour output (earlier ++ last ∷ [])) (hour_of stamp)
    whole [] = refl
    whole (change ∷ earlier) = refl

-- the request of a change is what the words ask for, where its texts are theirs
pub change_asked : (rules base stamp output : List ℕ) (changes earlier : List (List ℕ)) (last as_rules as_base as_stamp as_output as_last : List ℕ) (hour : CivilHour) (r : Option CivilHour)
    → changes ≡ earlier ++ last ∷ [] → as_rules ≡ rules → as_base ≡ base → as_stamp ≡ stamp → as_output ≡ output → as_last ≡ last → r ≡ hour_of as_stamp → r ≡ Some hour
    → asked_change rules base stamp output changes ≡ Some (change_map as_rules as_base hour as_output (earlier ++ as_last ∷ []))
change_asked rules base stamp output changes earlier last as_rules as_base as_stamp as_output as_last hour r are one two three four five reads is =
    last_change rules base stamp output changes earlier last are
    ∙ ap (option_map (λ (h : CivilHour). change_map rules base h output (earlier ++ last ∷ []))) (ap hour_of (sym three) ∙ sym reads ∙ is)
    ∙ (λ i. Some (change_map (sym one i) (sym two i) hour (sym four i) (earlier ++ sym five i ∷ [])))
