-- How large the values of fields are.
use Rattle.std.proofs.Common.{◌≡◌, ℕ, ◌≤◌, List, [], ◌∷◌, Bool, true, false, cond, ◌&&◌, nat_le, Option, Some, None, ℤ, unsigned_abs, refl, sym, ap, ◌∙◌, subst, arith}
use Rattle.std.specs.Option.{option_map}
use Rattle.std.proofs.lemmas.Bool.{leb-true}
use Rattle.std.proofs.lemmas.Int.{ints}
use Rattle.text_pieces.specs.Numbers.{are_digits, decimal, number_of, signed, has_minus, without_minus, id_of}
use Rattle.text_pieces.specs.Coordinates.{is_magnitude, magnitude, magnitude_of, degrees_of}
use Rattle.live_model.specs.declared.ids.Kind.{Kind}
use Rattle.live_model.specs.Ids.{Id, IsId}
use Rattle.live_model.specs.FieldValues.{kind_of, id_from, object_of, version_of, coordinate_of}

-- what stands only where it is at most a bound
bounded : (b : Bool) (m top n : ℕ) → cond (b && nat_le m top) (Some m) None ≡ Some n → n ≤ top
bounded b m top n e = one b (nat_le m top) refl e
  where
    one : (a t : Bool) → nat_le m top ≡ t → cond (a && t) (Some m) None ≡ Some n → n ≤ top
    one true true t e = let below : m ≤ top = leb-true m top t in let same : m ≡ n = cc in omega arith
    one true false t e = absurd (cc)
    one false u t e = absurd (cc)

pub number_within : (most top : ℕ) (ds : List ℕ) (n : ℕ) → number_of most top ds ≡ Some n → n ≤ top
unfolding number_of
number_within most top ds n e = bounded (are_digits most ds) (decimal ds) top n e

magnitude_within : (most : ℕ) (bytes : List ℕ) (n : ℕ) → magnitude_of most bytes ≡ Some n → n ≤ most
unfolding magnitude_of
magnitude_within most bytes n e = bounded (is_magnitude bytes) (magnitude bytes) most n e

-- a sign does not change the magnitude
magnitude_signed : (minus : Bool) (n : ℕ) → unsigned_abs (signed minus n) ≡ n
magnitude_signed true n = omega (arith, ints)
magnitude_signed false n = refl

-- a number with a sign is as large as its magnitude
signed_within : (minus : Bool) (o : Option ℕ) (most : ℕ) (z : ℤ) → ((n : ℕ) → o ≡ Some n → n ≤ most) → option_map (signed minus) o ≡ Some z → unsigned_abs z ≤ most
signed_within minus None most z within e = absurd (cc)
signed_within minus (Some n) most z within e =
    let below : n ≤ most = within n refl in
    let same : signed minus n ≡ z = cc in
    let big : unsigned_abs z ≡ n = sym (ap unsigned_abs same) ∙ magnitude_signed minus n in
    omega arith

pub id_within : (bytes : List ℕ) (z : ℤ) → id_of bytes ≡ Some z → unsigned_abs z ≤ 281474976710656
unfolding id_of
id_within bytes z e = signed_within (has_minus bytes) (number_of 15 281474976710656 (without_minus bytes)) 281474976710656 z (number_within 15 281474976710656 (without_minus bytes)) e

pub degrees_within : (most : ℕ) (bytes : List ℕ) (z : ℤ) → degrees_of most bytes ≡ Some z → unsigned_abs z ≤ most
unfolding degrees_of
degrees_within most bytes z e = signed_within (has_minus bytes) (magnitude_of most (without_minus bytes)) most z (magnitude_within most (without_minus bytes)) e

pub version_within : (value : List ℕ) (n : ℕ) → version_of value ≡ Some n → n ≤ 4294967295
unfolding version_of
version_within value n e = number_within 10 4294967295 value n e

pub coordinate_within : (most : ℕ) (value : List ℕ) (z : ℤ) → coordinate_of most value ≡ Some (Some z) → unsigned_abs z ≤ most
unfolding coordinate_of
coordinate_within most [] z e = absurd (cc)
coordinate_within most (c ∷ cs) z e = one (degrees_of most (c ∷ cs)) refl e
  where
    one : (o : Option ℤ) → degrees_of most (c ∷ cs) ≡ o → option_map Some o ≡ Some (Some z) → unsigned_abs z ≤ most
    one None read e = absurd (cc)
    one (Some w) read e = let same : w ≡ z = cc in degrees_within most (c ∷ cs) z (read ∙ ap Some same)

pub object_within : (bytes : List ℕ) (o : Id) → object_of bytes ≡ Some o → IsId o
unfolding object_of
object_within [] o e = absurd (cc)
object_within (c ∷ cs) o e = one (kind_of c) (id_of cs) refl e
  where
    one : (k : Option Kind) (i : Option ℤ) → id_of cs ≡ i → id_from k i ≡ Some o → IsId o
    one None i read e = absurd (cc)
    one (Some k) None read e = absurd (cc)
    one (Some k) (Some z) read e =
        let within : unsigned_abs z ≤ 281474976710656 = id_within cs z read in
        let same : record { kind = k; number = z } ≡ o = cc in
        subst IsId same within
