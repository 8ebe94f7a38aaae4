-- What text spells which civil hour.
use Rattle.std.proofs.Common.{◌≡◌, ◌↔◌, ℕ, ◌+◌, ◌*◌, ◌/◌, ◌%◌, List, length, get_or, refl, sym, ap, subst, ◌∙◌, arith, Result, Ok, Err, IsOk, IfOk, IsNone, IfSome}
use Rattle.std.specs.Result.{result_ok}
use Rattle.std.proofs.lemmas.Slice.Eq.{text_from_reads}
use Rattle.stamp_core.specs.declared.stamp.BadDate.{BadDate}
use Rattle.stamp_core.specs.Hours.{CivilHour, IsCivilHour, civil_hour}
use Rattle.stamp_core.specs.Texts.{text_of, IsPairAt}
use Rattle.stamp_core.proofs.Dates.{same_hour}

-- two digits at each place, and a hyphen between them, spell this hour
pub spells : (t : List ℕ) (century year month day hour : ℕ) → length t ≡ 13 → get_or t 4 0 ≡ 45 → get_or t 7 0 ≡ 45 → get_or t 10 0 ≡ 45
    → IsPairAt t 0 century → IsPairAt t 2 year → IsPairAt t 5 month → IsPairAt t 8 day → IsPairAt t 11 hour
    → t ≡ text_of (civil_hour (century * 100 + year) month day hour)
spells t century year month day hour long one two three c y m d h =
    let up : (century * 100 + year) / 100 ≡ century = omega (arith, y.0) in
    let low : (century * 100 + year) % 100 ≡ year = omega (arith, y.0) in
    text_from_reads t _ long (
      c.1 ∙ ap (λ (n : ℕ). 48 + n / 10) (sym up),
      (
        c.2 ∙ ap (λ (n : ℕ). 48 + n % 10) (sym up),
        (
          y.1 ∙ ap (λ (n : ℕ). 48 + n / 10) (sym low),
          (
            y.2 ∙ ap (λ (n : ℕ). 48 + n % 10) (sym low),
            (one, (m.1, (m.2, (two, (d.1, (d.2, (three, (h.1, (h.2, tt))))))))),
          ),
        ),
      ),
    )

same_pair : (m n : ℕ) → 48 + m / 10 ≡ 48 + n / 10 → 48 + m % 10 ≡ 48 + n % 10 → m ≡ n
same_pair m n tens ones = omega arith

-- no two hours have one text
pub text_of-injective : (a b : CivilHour) → text_of a ≡ text_of b → a ≡ b
text_of-injective a b e =
    let century = same_pair (a.year / 100) (b.year / 100) (ap (λ (t : List ℕ). get_or t 0 0) e) (ap (λ (t : List ℕ). get_or t 1 0) e) in
    let year = same_pair (a.year % 100) (b.year % 100) (ap (λ (t : List ℕ). get_or t 2 0) e) (ap (λ (t : List ℕ). get_or t 3 0) e) in
    let month = same_pair a.month b.month (ap (λ (t : List ℕ). get_or t 5 0) e) (ap (λ (t : List ℕ). get_or t 6 0) e) in
    let day = same_pair a.day b.day (ap (λ (t : List ℕ). get_or t 8 0) e) (ap (λ (t : List ℕ). get_or t 9 0) e) in
    let hour = same_pair a.hour b.hour (ap (λ (t : List ℕ). get_or t 11 0) e) (ap (λ (t : List ℕ). get_or t 12 0) e) in
    same_hour a b (omega arith) month day hour

-- what is read is an hour of the calendar exactly where the text that is read spells one
pub found : (t : List ℕ) (c : CivilHour) (r : Result CivilHour BadDate) → t ≡ text_of c → IsOk r ↔ IsCivilHour c → IfOk r (λ s. s ≡ c) → IfSome (result_ok r) (λ s. IsCivilHour s × (text_of s ≡ t))
found t c (Ok s) e is same = let P : CivilHour → Type 0 = λ x. IsCivilHour x × (text_of x ≡ t) in subst P (sym same) (is.0 refl, sym e)
found t c (Err b) e is same = tt

pub none : (t : List ℕ) (c : CivilHour) (r : Result CivilHour BadDate) → t ≡ text_of c → IsOk r ↔ IsCivilHour c → IfOk r (λ s. s ≡ c) → IsNone (result_ok r) ↔ ((other : CivilHour) → IsCivilHour other → text_of other ≡ t → ⊥)
none t c (Ok s) e is same = (λ e. absurd (cc), λ no. absurd (no c (is.0 refl) (sym e)))
none t c (Err b) e is same = (λ _ other h spells. let P : CivilHour → Type 0 = IsCivilHour in let both = is.1 (subst P (text_of-injective other c (spells ∙ e)) h) in cc, λ _. refl)
