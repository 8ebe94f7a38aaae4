-- An object has one ordinal, and an ordinal one object.
use Rattle.std.proofs.Common.{◌≡◌, ℕ, zero, suc, ◌+◌, ◌*◌, ◌/◌, ◌%◌, ◌^◌, ◌≤◌, true, refl, ap, ◌∙◌, arith}
use Rattle.std.specs.Prelude.{ℤ, pos, negsuc, ◌-ℤ◌, unsigned_abs, nat_le}
use Rattle.std.proofs.lemmas.Bool.{le-leb, leb-true, and_from, and_parts}
use Rattle.std.proofs.lemmas.Int.{ints}
use Rattle.live_model.specs.declared.ids.Kind.{Kind}
use Rattle.live_model.specs.declared.ids.Kind.TheVariants.{Node, Way, Relation}
use Rattle.live_model.specs.Ids.{Id, IsId, ordinal, rank, lifted_by}
use Rattle.file_grammar.specs.Sections.{object_of, object_kind}
use Rattle.file_grammar.specs.BoxRules.{is_ordinal}

abbrev half : ℕ
half = 2 ^ 48

most_lifted : (z : ℤ) → unsigned_abs z ≤ half → lifted_by half z ≤ 2 ^ 49
most_lifted (pos n) small = omega arith
most_lifted (negsuc n) small = omega arith

lowered : (z : ℤ) → unsigned_abs z ≤ half → pos (lifted_by half z) -ℤ pos half ≡ z
lowered (pos n) small = omega (arith, ints)
lowered (negsuc n) small = omega (arith, ints)

pub least_rank : (kind : Kind) → (rank kind ≤ 2) × (object_kind (rank kind) ≡ kind)
least_rank Node = (omega arith, refl)
least_rank Way = (omega arith, refl)
least_rank Relation = (omega arith, refl)

kind_part : (r l : ℕ) → l ≤ 2 ^ 49 → (r * 2 ^ 50 + l) / 2 ^ 50 ≡ r
kind_part r l small = omega arith

number_part : (r l : ℕ) → l ≤ 2 ^ 49 → (r * 2 ^ 50 + l) % 2 ^ 50 ≡ l
number_part r l small = omega arith

in_range : (n r l : ℕ) → n / 2 ^ 50 ≡ r → n % 2 ^ 50 ≡ l → r ≤ 2 → l ≤ 2 ^ 49 → is_ordinal n ≡ true
in_range n r l kind number least small =
    and_from (nat_le (n / 2 ^ 50) 2) (nat_le (n % 2 ^ 50) (2 ^ 49)) (le-leb (n / 2 ^ 50) 2 (omega arith)) (le-leb (n % 2 ^ 50) (2 ^ 49) (omega arith))

same_object : (n : ℕ) (kind : Kind) (number : ℤ) → object_kind (n / 2 ^ 50) ≡ kind → pos (n % 2 ^ 50) -ℤ pos half ≡ number → object_of n ≡ record { kind = kind; number = number }
same_object n kind number is_kind is_number =
    ap (λ (k : Kind). record { kind = k; number = pos (n % 2 ^ 50) -ℤ pos half }) is_kind ∙ ap (λ (z : ℤ). record { kind = kind; number = z }) is_number

pub ordinal_is : (o : Id) → IsId o → is_ordinal (ordinal o) ≡ true
ordinal_is o good =
    let small = most_lifted o.number good in
    in_range (ordinal o) (rank o.kind) (lifted_by half o.number) (kind_part (rank o.kind) (lifted_by half o.number) small) (number_part (rank o.kind) (lifted_by half o.number) small)
    (least_rank o.kind).0 small

pub kind_of_ordinal : (o : Id) → IsId o → ordinal o / 2 ^ 50 ≡ rank o.kind
kind_of_ordinal o good = kind_part (rank o.kind) (lifted_by half o.number) (most_lifted o.number good)

pub object_again : (o : Id) → IsId o → object_of (ordinal o) ≡ o
object_again o good =
    let small = most_lifted o.number good in
    same_object (ordinal o) o.kind o.number (ap object_kind (kind_of_ordinal o good) ∙ (least_rank o.kind).1)
    (ap (λ (n : ℕ). pos n -ℤ pos half) (number_part (rank o.kind) (lifted_by half o.number) small) ∙ lowered o.number good)

small_number : (l : ℕ) → l ≤ 2 ^ 49 → unsigned_abs (pos l -ℤ pos half) ≤ half
small_number l small = omega (arith, ints)

lift_again : (l : ℕ) → l ≤ 2 ^ 49 → lifted_by half (pos l -ℤ pos half) ≡ l
lift_again l small = one (pos l -ℤ pos half) refl
  where
    one : (z : ℤ) → pos l -ℤ pos half ≡ z → lifted_by half z ≡ l
    one (pos n) e = omega (arith, ints)
    one (negsuc n) e = omega (arith, ints)

rank_again : (r : ℕ) → r ≤ 2 → rank (object_kind r) ≡ r
rank_again zero small = refl
rank_again (suc zero) small = refl
rank_again (suc (suc zero)) small = refl
rank_again (suc (suc (suc r))) small = absurd (omega arith)

pub object_good : (n : ℕ) → is_ordinal n ≡ true → IsId (object_of n)
object_good n good =
    let parts = and_parts (nat_le (n / 2 ^ 50) 2) (nat_le (n % 2 ^ 50) (2 ^ 49)) good in
    small_number (n % 2 ^ 50) (leb-true (n % 2 ^ 50) (2 ^ 49) parts.1)

pub ordinal_again : (n : ℕ) → is_ordinal n ≡ true → ordinal (object_of n) ≡ n
ordinal_again n good =
    let parts = and_parts (nat_le (n / 2 ^ 50) 2) (nat_le (n % 2 ^ 50) (2 ^ 49)) good in
    let kind = rank_again (n / 2 ^ 50) (leb-true (n / 2 ^ 50) 2 parts.0) in
    let number = lift_again (n % 2 ^ 50) (leb-true (n % 2 ^ 50) (2 ^ 49) parts.1) in
    omega arith
