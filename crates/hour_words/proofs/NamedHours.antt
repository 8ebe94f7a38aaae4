-- Which word names which hour.
use Rattle.std.proofs.Common.{◌≡◌, ℕ, ◌/◌, ◌%◌, ◌+◌, ◌*◌, ◌-◌, List, Bool, true, false, Option, Some, None, IfSome, ap, arith, refl, sym, subst, ◌∙◌, [], ◌∷◌, ◌++◌, length}
use Rattle.std.specs.Prelude.{◌&&◌, bytes_eq}
use Rattle.std.specs.Option.{option_map}
use Rattle.std.specs.Prelude.{if◌then◌else◌}
use Rattle.std.proofs.lemmas.Bool.{and_parts, and_from}
use Rattle.std.proofs.lemmas.Slice.Eq.{bytes_eq-Decides}
use Rattle.stamp_core.specs.Hours.{CivilHour, IsCivilHour, number_of}
use Rattle.stamp_core.specs.Texts.{text_of}
use Rattle.file_grammar.specs.Files.{is_hour}
use Rattle.file_grammar.proofs.HourNumbers.{civil_of, day_few, hour_is, hour_of as hour_by}
use Rattle.hour_words.specs.HourWords.{hour_numbered, hour_of, number_in}

civil_numbered : (n : ℕ) → is_hour n ≡ true → IsCivilHour (hour_numbered n)
unfolding hour_by
civil_numbered n is = civil_of n is

same_bytes : (xs ys : List ℕ) → xs ≡ ys → bytes_eq xs ys ≡ true
same_bytes xs ys = (bytes_eq-Decides xs ys).1

from_bytes : (xs ys : List ℕ) → bytes_eq xs ys ≡ true → xs ≡ ys
from_bytes xs ys = (bytes_eq-Decides xs ys).0

-- two digits make the number that they were made of
pair_back : (n : ℕ) → (48 + n / 10 - 48) * 10 + (48 + n % 10 - 48) ≡ n
pair_back n = omega arith

-- the digits of the text of an hour make its number
number_back : (c : CivilHour) → number_in (text_of c) ≡ number_of c
number_back c =
    let year : c.year / 100 * 100 + c.year % 100 ≡ c.year = omega arith in
    (λ i. (pair_back (c.year / 100) i * 100 + pair_back (c.year % 100) i) * 1000000 + pair_back c.month i * 10000 + pair_back c.day i * 100 + pair_back c.hour i)
    ∙ ap (λ (y : ℕ). y * 1000000 + c.month * 10000 + c.day * 100 + c.hour) year

-- the number of an hour of the calendar is of this hour
pub hour_back : (c : CivilHour) → IsCivilHour c → hour_numbered (number_of c) ≡ c
hour_back c civil =
    let day = day_few c civil in
    let y : number_of c / 1000000 ≡ c.year = omega (arith, day, civil.1.1, civil.3) in
    let m : number_of c / 10000 % 100 ≡ c.month = omega (arith, day, civil.1.1, civil.3) in
    let d : number_of c / 100 % 100 ≡ c.day = omega (arith, day, civil.1.1, civil.3) in
    let h : number_of c % 100 ≡ c.hour = omega (arith, day, civil.1.1, civil.3) in
    λ i. record { year = y i; month = m i; day = d i; hour = h i }

-- what a word is read as is the hour that it names
pub named : (word : List ℕ) (r : Option CivilHour) → IfSome r (λ c. IsCivilHour c × (text_of c ≡ word)) → ((c : CivilHour) → IsCivilHour c → text_of c ≡ word → r ≡ Some c) → r ≡ hour_of word
named word r found exact = one (is_hour n && bytes_eq word (text_of (hour_numbered n))) refl
  where
    n : ℕ
    n = number_in word

    none : (r : Option CivilHour) → IfSome r (λ c. IsCivilHour c × (text_of c ≡ word)) → (is_hour n && bytes_eq word (text_of (hour_numbered n))) ≡ false → r ≡ None
    none None h e = refl
    none (Some c) h e =
        let number : number_in word ≡ number_of c = ap number_in (sym h.1) ∙ number_back c in
        let same : hour_numbered (number_in word) ≡ c = ap hour_numbered number ∙ hour_back c h.0 in
        let text : word ≡ text_of (hour_numbered (number_in word)) = sym h.1 ∙ ap text_of (sym same) in
        let is : is_hour (number_in word) ≡ true = ap is_hour number ∙ hour_is c h.0 in
        let both = and_from (is_hour (number_in word)) (bytes_eq word (text_of (hour_numbered (number_in word)))) is (same_bytes word (text_of (hour_numbered (number_in word))) text) in
        absurd (cc)

    one : (b : Bool) → (is_hour n && bytes_eq word (text_of (hour_numbered n))) ≡ b → r ≡ (if b then Some (hour_numbered n) else None)
    one false e = none r found e
    one true e =
        let parts = and_parts (is_hour n) (bytes_eq word (text_of (hour_numbered n))) e in
        exact (hour_numbered n) (civil_numbered n parts.0) (sym (from_bytes word (text_of (hour_numbered n)) parts.1))
