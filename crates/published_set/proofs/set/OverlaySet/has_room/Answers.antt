use Rattle.std.proofs.Common.{◌≡◌, ℕ, Bool, true, length, ◌&&◌, nat_lt, sym, ap, ap₂, subst, ◌∙◌, arith}
use Rattle.std.proofs.lemmas.Bool.Decides.{nat_tests}
use Rattle.std.specs.Arc.{arc_value}
use Rattle.published_set.specs.Ops.{has_room}
use Rattle.published_set.specs.Sets.{PublishedSet}
use Rattle.published_set.proofs.Adding.{room_is}
use Rattle.published_set.proofs.set.OverlaySet.has_room.Goals as goal

pub returns-then-len-lt-MOST_ENTRIES : goal.returns-then-len-lt-MOST_ENTRIES
returns-then-len-lt-MOST_ENTRIES c =
    let few : nat_lt c.len.result 65536 ≡ true = grind (arith, nat_tests, c.if-len-lt-MOST_ENTRIES.true) in
    let entries : c.len.result ≡ length c.self.inside.history.items = omega (arith, c.len.ensures) in
    let files : c.len-then-len-lt-MOST_ENTRIES.result ≡ length c.self.inside.numbers.items = omega (arith, c.len-then-len-lt-MOST_ENTRIES.ensures) in
    subst (λ (s : PublishedSet). nat_lt c.len-then-len-lt-MOST_ENTRIES.result 1024 ≡ has_room s.state) c.self.view_is
    (ap₂ (λ (some : Bool) (n : ℕ). some && nat_lt n 1024) (sym few ∙ ap (λ (n : ℕ). nat_lt n 65536) entries) files
    ∙ sym (room_is arc_value c.self.inside.history.items c.self.inside.numbers.items c.self.inside.images.items c.self.invariant.0))
