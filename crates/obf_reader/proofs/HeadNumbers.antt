-- The head that numbers are.
use Rattle.std.proofs.Common.{◌≡◌, ◌≢◌, ◌≤◌, ◌/◌, ℕ, true, Option, Some, refl, sym, ap, subst, ◌∙◌, inl, inr, arith}
use Rattle.std.specs.Prelude.{◌&&◌, ◌==◌, nat_le}
use Rattle.std.proofs.lemmas.Bool.{and_parts, eqb-true, leb-true}
use Rattle.live_model.specs.declared.levels.Level.{Level}
use Rattle.live_model.specs.declared.levels.Level.TheVariants.{Base, Hour, Day, Month}
use Rattle.live_model.specs.Levels.{level_number}
use Rattle.stamp_core.specs.Heads.{FitsLevel}
use Rattle.stamp_core.specs.Spans.{IsWithin}
use Rattle.stamp_core.specs.Hours.{CivilHour, IsCivilHour, number_of}
use Rattle.file_grammar.specs.Files.{hour_number, is_head, is_hour, is_stretch}
use Rattle.file_grammar.proofs.HourNumbers.{civil_of, hour_of, number_hour}
use Rattle.file_grammar.proofs.Inside.{chosen}
use Rattle.obf_reader.specs.Heads.{IsHeadOf}
use Rattle.obf_reader.proofs.FileShape.{same_head}

stretch_level : (level first last : ℕ) → is_stretch level first last ≡ true → level ≤ 3
stretch_level level first last e =
    elim (chosen (level == 1) _ _ true e) [
      | inl c ↦ (let f : level ≡ 1 = eqb-true level 1 c.0 in omega (arith, f))
      | inr c ↦ elim (chosen (level == 2) _ _ true c.1) [
        | inl d ↦ (let f : level ≡ 2 = eqb-true level 2 d.0 in omega (arith, f))
        | inr d ↦ (let f : level ≡ 3 = eqb-true level 3 (and_parts (level == 3) (first / 10000 == last / 10000) d.1).0 in omega (arith, f))
      ]
    ]

-- an answer is the hour of a number, where one has it
abbrev IsHourFrom : ℕ → Option CivilHour → Type 0
IsHourFrom n r = (c : CivilHour) → IsCivilHour c → number_of c ≡ n → r ≡ Some c

hour_from : (n : ℕ) (r : Option CivilHour) → is_hour n ≡ true → IsHourFrom n r → r ≡ Some (hour_of n)
hour_from n r e exact = exact (hour_of n) (civil_of n e) (number_hour n)

number_from : (n : ℕ) (r : Option CivilHour) → is_hour n ≡ true → IsHourFrom n r → hour_number r ≡ n
number_from n r e exact = ap hour_number (hour_from n r e exact) ∙ number_hour n

-- two hours lie in one stretch of a level above the base
within : (a : Level) (first last : ℕ) → level_number a ≢ 0 → is_stretch (level_number a) first last ≡ true → IsWithin a (hour_of first) (hour_of last)
unfolding hour_of
within Base first last above e = above refl
within Hour first last above e = ap hour_of (eqb-true first last e)
within Day first last above e =
    let d : first / 100 ≡ last / 100 = eqb-true (first / 100) (last / 100) e in
    (omega (arith, d), omega (arith, d), omega (arith, d))
within Month first last above e =
    let m : first / 10000 ≡ last / 10000 = eqb-true (first / 10000) (last / 10000) e in
    (omega (arith, m), omega (arith, m))

good_above : (a : Level) (first last : ℕ) → level_number a ≢ 0 → nat_le first last ≡ true → is_stretch (level_number a) first last ≡ true → FitsLevel a (Some (hour_of first)) (Some (hour_of last))
good_above a first last above ordered e =
    let le : first ≤ last = leb-true first last ordered in
    let f : number_of (hour_of first) ≡ first = number_hour first in
    let l : number_of (hour_of last) ≡ last = number_hour last in
    (subst (λ (n : ℕ). n ≤ number_of (hour_of last)) (sym f) (subst (λ (n : ℕ). first ≤ n) (sym l) le), within a first last above e)

pub head_above : (level first last : ℕ) (a : Level) (b c : Option CivilHour) → level ≢ 0 → is_head (record { level = level; first = first; last = last }) ≡ true → (level ≤ 3 → level_number a ≡ level)
    → IsHourFrom first b → IsHourFrom last c → IsHeadOf (record { level = level; first = first; last = last }) (record { level = a; first = b; last = c })
head_above level first last a b c above e level_is first_is last_is =
    elim (chosen (level == 0) ((first == 0) && (last == 0)) ((is_hour first && is_hour last) && (nat_le first last && is_stretch level first last)) true e) [
      | inl d ↦ absurd (above (eqb-true level 0 d.0))
      | inr d ↦
          let p = and_parts (is_hour first && is_hour last) (nat_le first last && is_stretch level first last) d.1 in
          let hours = and_parts (is_hour first) (is_hour last) p.0 in
          let order = and_parts (nat_le first last) (is_stretch level first last) p.1 in
          let level_at = level_is (stretch_level level first last order.1) in
          let good = good_above a first last (λ none. above (sym level_at ∙ none)) order.0 (subst (λ (n : ℕ). is_stretch n first last ≡ true) (sym level_at) order.1) in
          let fits =
          subst (λ (x : Option CivilHour). FitsLevel a x c) (sym (hour_from first b hours.0 first_is))
          (subst (λ (x : Option CivilHour). FitsLevel a (Some (hour_of first)) x) (sym (hour_from last c hours.1 last_is)) good) in
          (same_head (level_number a) (hour_number b) (hour_number c) level first last level_at (number_from first b hours.0 first_is) (number_from last c hours.1 last_is), fits)
    ]
