-- Parts of records that tie are one: the order of each part tells them apart.
use Rattle.std.proofs.Common.{◌≡◌, ℕ, ◌+◌, ◌*◌, ◌^◌, ◌≤◌, List, [], ◌∷◌, refl, ap, ◌∙◌, arith}
use Rattle.std.specs.Prelude.{ℤ, pos, negsuc, unsigned_abs}
use Rattle.std.specs.Ordering.{nat_cmp, ordering_then}
use Rattle.std.specs.Cmp.Lexicographic.{slice_cmp}
use Rattle.std.specs.Cmp.{IsTotalOrder}
use Rattle.std.specs.declared.cmp.Ordering.{Ordering}
use Rattle.std.specs.declared.cmp.Ordering.TheVariants.{Less, Equal, Greater}
use Rattle.std.proofs.lemmas.Cmp.{nat_cmp_total, on_total, then_total}
use Rattle.std.proofs.lemmas.Bool.Decides.{nat_tests}
use Rattle.live_model.specs.declared.ids.Kind.{Kind}
use Rattle.live_model.specs.declared.ids.Kind.TheVariants.{Node, Way, Relation}
use Rattle.live_model.specs.declared.points.Point.{Point}
use Rattle.live_model.specs.Ids.{Id, IsId, ordinal, rank, lifted_by}
use Rattle.live_model.specs.Records.{point_cmp}

pub point_total : IsTotalOrder point_cmp
point_total = then_total (on_total (λ (p : Point). p.x) nat_cmp_total) (on_total (λ (p : Point). p.y) nat_cmp_total)

pub then_equal : (o p : Ordering) → ordering_then o p ≡ Equal → (o ≡ Equal) × (p ≡ Equal)
then_equal Less p e = absurd (cc)
then_equal Equal p e = (refl, e)
then_equal Greater p e = absurd (cc)

pub same_number : (a b : ℕ) → nat_cmp a b ≡ Equal → a ≡ b
same_number a b e = grind (arith, nat_tests)

same_lift : (by : ℕ) (y z : ℤ) → unsigned_abs y ≤ by → unsigned_abs z ≤ by → lifted_by by y ≡ lifted_by by z → y ≡ z
same_lift by (pos m) (pos n) a b e = let s : m ≡ n = omega arith in ap pos s
same_lift by (pos m) (negsuc n) a b e = absurd (omega arith)
same_lift by (negsuc m) (pos n) a b e = absurd (omega arith)
same_lift by (negsuc m) (negsuc n) a b e = let s : m ≡ n = omega arith in ap negsuc s

lift_most : (by : ℕ) (z : ℤ) → unsigned_abs z ≤ by → lifted_by by z ≤ by + by
lift_most by (pos n) a = omega arith
lift_most by (negsuc n) a = omega arith

same_rank : (j k : Kind) (m n : ℕ) → m ≤ 2 ^ 49 → n ≤ 2 ^ 49 → rank j * 2 ^ 50 + m ≡ rank k * 2 ^ 50 + n → (j ≡ k) × (m ≡ n)
same_rank Node Node m n a b e = (refl, omega arith)
same_rank Node Way m n a b e = absurd (omega arith)
same_rank Node Relation m n a b e = absurd (omega arith)
same_rank Way Node m n a b e = absurd (omega arith)
same_rank Way Way m n a b e = (refl, omega arith)
same_rank Way Relation m n a b e = absurd (omega arith)
same_rank Relation Node m n a b e = absurd (omega arith)
same_rank Relation Way m n a b e = absurd (omega arith)
same_rank Relation Relation m n a b e = (refl, omega arith)

pub same_id : (a b : Id) → IsId a → IsId b → ordinal a ≡ ordinal b → a ≡ b
same_id a b good_a good_b e =
    let most_a = lift_most (2 ^ 48) a.number good_a in
    let most_b = lift_most (2 ^ 48) b.number good_b in
    let parts = same_rank a.kind b.kind (lifted_by (2 ^ 48) a.number) (lifted_by (2 ^ 48) b.number) (omega arith) (omega arith) e in
    let number = same_lift (2 ^ 48) a.number b.number good_a good_b parts.1 in
    ap (λ (k : Kind). record { kind = k; number = a.number }) parts.0 ∙ ap (λ (n : ℤ). record { kind = b.kind; number = n }) number

pub same_point : (a b : Point) → point_cmp a b ≡ Equal → a ≡ b
same_point a b e =
    let parts = then_equal (nat_cmp a.x b.x) (nat_cmp a.y b.y) e in
    ap (λ (x : ℕ). record { x = x; y = a.y }) (same_number a.x b.x parts.0) ∙ ap (λ (y : ℕ). record { x = b.x; y = y }) (same_number a.y b.y parts.1)

pub same_points : (ps qs : List Point) → slice_cmp point_cmp ps qs ≡ Equal → ps ≡ qs
same_points [] [] e = refl
same_points [] (b ∷ qs) e = absurd (cc)
same_points (a ∷ ps) [] e = absurd (cc)
same_points (a ∷ ps) (b ∷ qs) e =
    let parts = then_equal (point_cmp a b) (slice_cmp point_cmp ps qs) e in
    ap (λ (p : Point). p ∷ ps) (same_point a b parts.0) ∙ ap (λ (rest : List Point). b ∷ rest) (same_points ps qs parts.1)
