-- The head of a fold is good.
use Rattle.std.proofs.Common.{◌≡◌, ◌≢◌, ◌+◌, ◌*◌, ◌/◌, ◌<◌, ◌≤◌, ℕ, Bool, true, List, [], ◌∷◌, map, Option, Some, None, inl, inr, refl, sym, subst, arith}
use Rattle.std.specs.Prelude.{IfSome, ◌⊎◌, nat_lt}
use Rattle.std.specs.List.{AllByRecursion}
use Rattle.std.proofs.lemmas.Bool.{and_parts, eqb-true, ltb-true}
use Rattle.live_model.specs.declared.levels.Level.{Level}
use Rattle.live_model.specs.declared.levels.Level.TheVariants.{Base, Hour, Day, Month}
use Rattle.stamp_core.specs.Heads.{FitsLevel, IsGoodHead}
use Rattle.stamp_core.specs.Hours.{CivilHour, IsCivilHour, number_of}
use Rattle.stamp_core.specs.Spans.{IsWithin}
use Rattle.stamp_core.specs.declared.head.Head.{Head}
use Rattle.file_order.specs.Folding.{share_period}
use Rattle.file_order.specs.Runs.{Placed}
use Rattle.file_grammar.proofs.HourNumbers.{day_few}
use Rattle.obf_reader.specs.Images.{Seen}
use Rattle.packed_image.specs.Overlays.{HoldsParts}
use Rattle.fold_merge.specs.Folds.{fold_head, last_hour, placed_of}
use Rattle.fold_merge.proofs.Asked.{AreParts, not_base}

-- the hours of a head are hours of the calendar
abbrev pub AreCivil : Seen → Type 0
AreCivil i = IfSome i.head.first IsCivilHour × IfSome i.head.last IsCivilHour

-- a head that is of no base has both its hours, the first at most the last
record HasHours (first last : Option CivilHour) : Type 0 where
  from : CivilHour
  to : CivilHour
  first_is : first ≡ Some from
  last_is : last ≡ Some to
  order : number_of from ≤ number_of to

has_hours : (level : Level) (first last : Option CivilHour) → FitsLevel level first last → level ≢ Base → HasHours first last
has_hours level None None fits above = absurd (above fits)
has_hours level (Some a) (Some b) fits above = record { from = a; to = b; first_is = refl; last_is = refl; order = fits.0 }
has_hours level None (Some b) fits above = absurd fits
has_hours level (Some a) None fits above = absurd fits

-- images after one that ends at an hour end at an hour no earlier, in the same period
record EndsIn (level : Level) (from : CivilHour) (last : Option CivilHour) : Type 0 where
  to : CivilHour
  is : last ≡ Some to
  order : number_of from ≤ number_of to
  shared : share_period level (Some from) (Some to) ≡ true
  civil : IsCivilHour to

ends_in : (level : Level) (first : Placed) (from : CivilHour) → first.head.first ≡ Some from → (last : Option CivilHour) → EndsIn level from last → (images : List Seen) → AreParts level first last (map placed_of images)
    → AllByRecursion HoldsParts images → AllByRecursion AreCivil images → EndsIn level from (last_hour last images)
ends_in level first from begins last end [] parts held civil = end
ends_in level first from begins last end (i ∷ is) parts held civil =
    let h = has_hours i.head.level i.head.first i.head.last held.0.head (not_base i.head.level parts.0) in
    let after : nat_lt (number_of end.to) (number_of h.from) ≡ true =
    subst (λ (o : Option CivilHour). Rattle.file_order.specs.Runs.is_after o (Some h.from) ≡ true) end.is
    (subst (λ (o : Option CivilHour). Rattle.file_order.specs.Runs.is_after last o ≡ true) h.first_is parts.1.1.0) in
    let later : number_of end.to < number_of h.from = ltb-true (number_of end.to) (number_of h.from) after in
    let both = and_parts (share_period level first.head.first i.head.first) (share_period level first.head.first i.head.last) parts.1.1.1.0 in
    let shared : share_period level (Some from) (Some h.to) ≡ true =
    subst (λ (o : Option CivilHour). share_period level o (Some h.to) ≡ true) begins (subst (λ (o : Option CivilHour). share_period level first.head.first o ≡ true) h.last_is both.1) in
    ends_in level first from begins i.head.last
    (record { to = h.to; is = h.last_is; order = omega (arith, later, end.order, h.order); shared = shared; civil = subst (λ (o : Option CivilHour). IfSome o IsCivilHour) h.last_is civil.0.1 })
    is parts.1.1.1.1 held.1 civil.1

-- hours of one period lie in one stretch of its level
stretched : (level : Level) → (level ≡ Day) ⊎ (level ≡ Month) → (a b : CivilHour) → IsCivilHour a → IsCivilHour b → share_period level (Some a) (Some b) ≡ true → IsWithin level a b
stretched Day which a b c d e =
    let same : number_of a / 100 ≡ number_of b / 100 = eqb-true (number_of a / 100) (number_of b / 100) e in
    let days = day_few a c in
    let more = day_few b d in
    let month_a = c.1.1 in
    let month_b = d.1.1 in
    let hour_a = c.3 in
    let hour_b = d.3 in
    let year : a.year ≡ b.year = omega (arith, same, days, more, month_a, month_b, hour_a, hour_b) in
    let month : a.month ≡ b.month = omega (arith, same, days, more, month_a, month_b, hour_a, hour_b, year) in
    (year, month, omega (arith, same, days, more, hour_a, hour_b, year, month))
stretched Month which a b c d e =
    let same : number_of a / 10000 ≡ number_of b / 10000 = eqb-true (number_of a / 10000) (number_of b / 10000) e in
    let days = day_few a c in
    let more = day_few b d in
    let month_a = c.1.1 in
    let month_b = d.1.1 in
    let hour_a = c.3 in
    let hour_b = d.3 in
    let year : a.year ≡ b.year = omega (arith, same, days, more, month_a, month_b, hour_a, hour_b) in
    (year, omega (arith, same, days, more, month_a, month_b, hour_a, hour_b, year))
stretched Base which a b c d e = elim which [ inl x ↦ absurd cc | inr x ↦ absurd cc ]
stretched Hour which a b c d e = elim which [ inl x ↦ absurd cc | inr x ↦ absurd cc ]

-- from the first hour of the first image to the last hour of the last
pub good_fold : (level : Level) → (level ≡ Day) ⊎ (level ≡ Month) → (first : Seen) (images : List Seen) → AreParts level (placed_of first) None (map placed_of (first ∷ images))
    → AllByRecursion HoldsParts (first ∷ images) → AllByRecursion AreCivil (first ∷ images) → IsGoodHead (fold_head level (first ∷ images))
good_fold level which first images parts held civil =
    let h = has_hours first.head.level first.head.first first.head.last held.0.head (not_base first.head.level parts.0) in
    let both = and_parts (share_period level first.head.first first.head.first) (share_period level first.head.first first.head.last) parts.1.1.1.0 in
    let shared : share_period level (Some h.from) (Some h.to) ≡ true =
    subst (λ (o : Option CivilHour). share_period level o (Some h.to) ≡ true) h.first_is (subst (λ (o : Option CivilHour). share_period level first.head.first o ≡ true) h.last_is both.1) in
    let own : EndsIn level h.from first.head.last = record { to = h.to; is = h.last_is; order = h.order; shared = shared; civil = subst (λ (o : Option CivilHour). IfSome o IsCivilHour) h.last_is civil.0.1 } in
    let end = ends_in level (placed_of first) h.from h.first_is first.head.last own images parts.1.1.1.1 held.1 civil.1 in
    let begun : IsCivilHour h.from = subst (λ (o : Option CivilHour). IfSome o IsCivilHour) h.first_is civil.0.0 in
    subst (λ (o : Option CivilHour). FitsLevel level o (last_hour first.head.last images)) (sym h.first_is)
    (subst (λ (o : Option CivilHour). FitsLevel level (Some h.from) o) (sym end.is) (end.order, stretched level which h.from end.to begun end.civil end.shared))
