-- Lists of numbers: any fuel over the length of the bytes is enough, and numbers are counted one by one.
use Rattle.std.proofs.Common.{◌≡◌, ℕ, zero, suc, ◌+◌, ◌-◌, ◌<◌, ◌≤◌, List, [], ◌∷◌, length, Result, Ok, Err, refl, sym, ap, ◌∙◌, arith}
use Rattle.std.specs.Prelude.{◌==◌, if◌then◌else◌}
use Rattle.std.proofs.lemmas.Bool.{eq-eqb, ne_eqb}
use Rattle.obf_wire.specs.declared.breaks.WireBreak.{WireBreak}
use Rattle.obf_wire.specs.declared.file.FileBreak.{FileBreak}
use Rattle.obf_wire.specs.Kinds.{file_break}
use Rattle.obf_wire.specs.Varint.{varint_at}
use Rattle.obf_wire.specs.Fields.{Window, IsWindow}
use Rattle.file_grammar.specs.Readings.{◌>>=◌, of_file, numbers_up_to, numbers_at, measured}
use Rattle.file_grammar.specs.Walks.{CountsOn, CountsNone}
use Rattle.file_grammar.proofs.Inside.{number_inside}

abbrev room : Window → ℕ
room w = w.end - w.place

abbrev at_place : Window → ℕ → Window
at_place w next = record w { place = next }

abbrev with_number : ℕ → List ℕ → Result (List ℕ) FileBreak
with_number n ns = Ok (n ∷ ns)

number_same : (r : Result (ℕ × ℕ) WireBreak) (f g : ℕ × ℕ → Result (List ℕ) FileBreak) → ((n next : ℕ) → r ≡ Ok (n, next) → f (n, next) ≡ g (n, next)) → (of_file r >>= f) ≡ (of_file r >>= g)
number_same (Ok (n, next)) f g same = same n next refl
number_same (Err b) f g same = refl

abbrev one_more : ℕ → Window → Result (List ℕ) FileBreak
one_more fuel w = of_file (varint_at w.bytes w.place w.end) >>= λ n. numbers_up_to fuel (at_place w n.1) >>= λ ns. Ok (n.0 ∷ ns)

pub list_fuel : (m n : ℕ) (w : Window) → IsWindow w → room w ≤ m → room w ≤ n → numbers_up_to m w ≡ numbers_up_to n w
list_fuel zero zero w window lm ln = refl
list_fuel zero (suc n) w window lm ln = rw (eq-eqb w.place w.end (omega (arith, lm, window.ordered))) refl
list_fuel (suc m) zero w window lm ln = rw (eq-eqb w.place w.end (omega (arith, ln, window.ordered))) refl
list_fuel (suc m) (suc n) w window lm ln =
    ap (λ r. if w.place == w.end then Ok [] else r)
    (number_same (varint_at w.bytes w.place w.end) _ _ λ x next e.
    let i = number_inside w.bytes w.place w.end x next window.ordered window.within e in
    ap (λ r. r >>= λ ns. Ok (x ∷ ns)) (list_fuel m n (at_place w next) (record { ordered = i.1; within = window.within }) (omega (arith, i.0, i.1, lm)) (omega (arith, i.0, i.1, ln))))

-- the numbers are the next one and those after it
pub list_turn : (w : Window) → IsWindow w
    → numbers_at w ≡ (if w.place == w.end then Ok [] else (of_file (varint_at w.bytes w.place w.end) >>= λ n. numbers_at (at_place w n.1) >>= λ ns. Ok (n.0 ∷ ns)))
list_turn w window =
    list_fuel (room w) (suc (room w)) w window (omega arith) (omega arith)
    ∙ ap (λ r. if w.place == w.end then Ok [] else r)
    (number_same (varint_at w.bytes w.place w.end) _ _ λ x next e.
    let i = number_inside w.bytes w.place w.end x next window.ordered window.within e in
    ap (λ r. r >>= λ ns. Ok (x ∷ ns)) (list_fuel (room w) (room (at_place w next)) (at_place w next) (record { ordered = i.1; within = window.within }) (omega (arith, i.0, i.1)) (omega arith)))

-- how many numbers there are, where this was read of the first
abbrev pub counted_on : ℕ → Window → Result (ℕ × ℕ) WireBreak → Result ℕ FileBreak
counted_on count w (Err b) = Err (file_break b)
counted_on count w (Ok (n, next)) = measured (count + 1) (numbers_at (at_place w next))

count_ok : ℕ → Result ℕ FileBreak
count_ok n = Ok n

plus_one : (count n : ℕ) (r : Result (List ℕ) FileBreak) → measured count (r >>= λ ns. Ok (n ∷ ns)) ≡ measured (count + 1) r
plus_one count n (Ok ns) = let same : count + length (n ∷ ns) ≡ count + 1 + length ns = omega arith in ap (λ k. Ok k) same
plus_one count n (Err b) = refl

counted_by : (count fuel : ℕ) (w : Window) (r : Result (ℕ × ℕ) WireBreak) → IsWindow w → r ≡ varint_at w.bytes w.place w.end → room w ≤ suc fuel
    → measured count (of_file r >>= λ n. numbers_up_to fuel (at_place w n.1) >>= λ ns. Ok (n.0 ∷ ns)) ≡ counted_on count w r
counted_by count fuel w (Err b) window e l = refl
counted_by count fuel w (Ok (n, next)) window e l =
    let i = number_inside w.bytes w.place w.end n next window.ordered window.within (sym e) in
    plus_one count n (numbers_up_to fuel (at_place w next))
    ∙ ap (measured (count + 1)) (list_fuel fuel (room (at_place w next)) (at_place w next) (record { ordered = i.1; within = window.within }) (omega (arith, i.0, i.1, l)) (omega arith))

-- before the end there is a number, and those behind it
pub counted : (count : ℕ) (w : Window) (r : Result (ℕ × ℕ) WireBreak) → IsWindow w → w.place < w.end → r ≡ varint_at w.bytes w.place w.end
    → measured count (numbers_at w) ≡ counted_on count w r
counted count w r window more e =
    ap (measured count) (list_fuel (room w) (suc (room w)) w window (omega arith) (omega arith))
    ∙ rw (ne_eqb w.place w.end (λ same. absurd (omega (arith, same, more))), sym e) (counted_by count (room w) w r window e (omega arith))

-- at the end there is none
pub counted_all : (count : ℕ) (w : Window) → IsWindow w → w.end ≤ w.place → measured count (numbers_at w) ≡ Ok count
counted_all count w window none =
    ap (measured count) (list_fuel (room w) 0 w window (omega arith) (omega arith)) ∙ ap (λ k. Ok k) (omega arith)

pub counts_on : (w : Window) (r : Result (ℕ × ℕ) WireBreak) (n next : ℕ) → IsWindow w → w.place < w.end → r ≡ varint_at w.bytes w.place w.end → r ≡ Ok (n, next) → CountsOn w next
counts_on w r n next window more e is count = counted count w r window more e ∙ ap (counted_on count w) is

pub counts_none : (w : Window) (r : Result (ℕ × ℕ) WireBreak) (b : WireBreak) → IsWindow w → w.place < w.end → r ≡ varint_at w.bytes w.place w.end → r ≡ Err b → CountsNone w (file_break b)
counts_none w r b window more e is count = counted count w r window more e ∙ ap (counted_on count w) is
