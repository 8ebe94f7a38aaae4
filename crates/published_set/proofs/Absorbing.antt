-- What is taken in is the swap, where it may come.
use Rattle.std.proofs.Common.{◌≡◌, ◌<◌, ◌≤◌, ◌-◌, ◌^◌, Bool, true, cond, ◌&&◌, nat_lt, List, ◌+◌, length, ap, ap₂, ◌∙◌, arith}
use Rattle.std.proofs.lemmas.Bool.Decides.{nat_tests}
use Rattle.live_model.specs.declared.objects.Line.{Line}
use Rattle.live_model.specs.declared.rules.Rule.{Rule}
use Rattle.overlay_set.specs.Sets.{State, age}
use Rattle.overlay_set.specs.Standing.{Stands}
use Rattle.overlay_set.specs.Swaps.{Add, Replace, applied}
use Rattle.published_set.specs.Ops.{AbsorbedLaw, has_number_left}
use Rattle.published_set.proofs.Adding.{room_for}

-- a set that stands has a number left
number_left : (rules : List Rule) (base : List Line) (s : State) → Stands rules base s → length s.history ≤ 65536 → has_number_left s ≡ true
number_left rules base s st few =
    let count : length s.files ≡ length st.above + 1 = ap length st.files ∙ omega arith in
    let some : 0 < length s.files = omega (arith, count) in
    let small : age s < 2 ^ 64 - 1 = omega (arith, st.light) in
    let filled : nat_lt 0 (length s.files) ≡ true = grind (arith, nat_tests, some) in
    let left : nat_lt (age s) (2 ^ 64 - 1) ≡ true = grind (arith, nat_tests, small) in
    ap₂ (λ a b. a && b) filled left

pub absorbed_law : AbsorbedLaw
absorbed_law rules base s (Add entry image) st room =
    let few = room_for (length s.history) (length s.files) room in
    ap (λ (b : Bool). cond b (applied s (Add entry image)) s) (ap₂ (λ a b. a && b) (number_left rules base s st (omega (arith, few.0))) room)
absorbed_law rules base s (Replace plan image) st few = ap (λ (b : Bool). cond b (applied s (Replace plan image)) s) (number_left rules base s st few)
