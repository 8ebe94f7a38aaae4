-- Rectangles: how their edges lie, and when two share a point.
use Rattle.std.proofs.Common.{◌↔◌, ◌≤◌, ℕ, ℤ, pos, negsuc, ◌≤ℤ◌, unsigned_abs, Bool, true, false, ◌&&◌, nat_le, IsTrue, max, arith, refl}
use Rattle.std.proofs.lemmas.Bool.{le-leb, leb-true}
use Rattle.std.proofs.lemmas.Int.{ints}
use Rattle.live_model.specs.Ids.{lifted_by}
use Rattle.live_model.specs.declared.points.Rect.{Rect}
use Rattle.live_model.specs.Points.{IsRect, SharesPoint, overlaps}

yes_and : (a b : Bool) → IsTrue a → IsTrue b → IsTrue (a && b)
yes_and true b p q = q
yes_and false b p q = p

pub lifted_rises : (by : ℕ) (a b : ℤ) → unsigned_abs a ≤ by → a ≤ℤ b → lifted_by by a ≤ lifted_by by b
lifted_rises by (pos m) (pos n) w le = omega (arith, ints)
lifted_rises by (pos m) (negsuc n) w le = absurd (omega (arith, ints))
lifted_rises by (negsuc m) (pos n) w le = omega (arith, ints)
lifted_rises by (negsuc m) (negsuc n) w le = omega (arith, ints)

both : (a b : Bool) → IsTrue (a && b) → IsTrue a × IsTrue b
both true b p = (refl, p)
both false b p = absurd (cc)

-- four tests at once
four : (a b c d e f g h : ℕ) → IsTrue ((nat_le a b && nat_le c d) && (nat_le e f && nat_le g h)) → (a ≤ b) × (c ≤ d) × (e ≤ f) × (g ≤ h)
four a b c d e f g h t =
    let halves = both (nat_le a b && nat_le c d) (nat_le e f && nat_le g h) t in
    let first = both (nat_le a b) (nat_le c d) halves.0 in
    let second = both (nat_le e f) (nat_le g h) halves.1 in
    (leb-true a b first.0, leb-true c d first.1, leb-true e f second.0, leb-true g h second.1)

four_hold : (a b c d e f g h : ℕ) → a ≤ b → c ≤ d → e ≤ f → g ≤ h → IsTrue ((nat_le a b && nat_le c d) && (nat_le e f && nat_le g h))
four_hold a b c d e f g h p q r s =
    yes_and (nat_le a b && nat_le c d) (nat_le e f && nat_le g h) (yes_and (nat_le a b) (nat_le c d) (le-leb a b p) (le-leb c d q)) (yes_and (nat_le e f) (nat_le g h) (le-leb e f r) (le-leb g h s))

shared : (a b : Rect) → IsRect a → IsRect b → IsTrue (overlaps a b) → SharesPoint a b
shared a b ra rb t =
    let o = four a.left b.right b.left a.right a.top b.bottom b.top a.bottom t in
    let across = ra.across in let down = ra.down in let across' = rb.across in let down' = rb.down in (
      record { x = max a.left b.left; y = max a.top b.top },
      four_hold a.left (max a.left b.left) (max a.left b.left) a.right a.top (max a.top b.top) (max a.top b.top) a.bottom (omega arith) (omega arith) (omega arith) (omega arith),
      four_hold b.left (max a.left b.left) (max a.left b.left) b.right b.top (max a.top b.top) (max a.top b.top) b.bottom (omega arith) (omega arith) (omega arith) (omega arith),
    )

overlapped : (a b : Rect) → SharesPoint a b → IsTrue (overlaps a b)
overlapped a b (p, inside_a, inside_b) =
    let i = four a.left p.x p.x a.right a.top p.y p.y a.bottom inside_a in
    let j = four b.left p.x p.x b.right b.top p.y p.y b.bottom inside_b in
    four_hold a.left b.right b.left a.right a.top b.bottom b.top a.bottom (omega arith) (omega arith) (omega arith) (omega arith)

pub overlap_shares : (a b : Rect) → IsRect a → IsRect b → IsTrue (overlaps a b) ↔ SharesPoint a b
overlap_shares a b ra rb = (shared a b ra rb, overlapped a b)
