use Rattle.std.proofs.Common.{◌≡◌, None, length, map, refl, sym, ap, subst, ◌∙◌}
use Rattle.std.specs.Prelude.{MatchOption}
use Rattle.std.specs.Arc.{arc_value}
use Rattle.overlay_set.specs.Sets.{State, last_in, stamps_of}
use Rattle.overlay_set.specs.Loose.{before_loose, loose_period}
use Rattle.published_set.specs.Sets.{IsFoundAt, IsLooseAt, IsStanding, PublishedSet, entry_of, files_of, heads_in, images_in}
use Rattle.published_set.proofs.Files.{seen_length}
use Rattle.published_set.proofs.Heads.{none_in_none, set_told}
use Rattle.published_set.proofs.set.OverlaySet.first_loose.Goals as goal

pub returns-in-None : goal.returns-in-None
returns-in-None c =
    let s : State = record { history = map entry_of c.self.inside.history.items; files = files_of c.self.inside.numbers.items (images_in (map arc_value c.self.inside.images.items)) } in
    subst (λ (s : PublishedSet). loose_period c.args.whole s.state ≡ None) c.self.view_is
    (none_in_none c.args.whole s (ap (λ items. last_in (stamps_of (map entry_of items))) (sym c.as_slice.ensures.value) ∙ sym c.in-None.ensures))

pub returns-in-Some : goal.returns-in-Some
returns-in-Some c =
    let s : State = record { history = map entry_of c.self.inside.history.items; files = files_of c.self.inside.numbers.items (images_in (map arc_value c.self.inside.images.items)) } in
    subst (λ (s : PublishedSet). IsStanding s → MatchOption c.first_loose.result (loose_period c.args.whole s.state ≡ None) (λ r. IsFoundAt (loose_period c.args.whole s.state) s.state.files r.0 r.1 r.2)) c.self.view_is
    (set_told c.args.whole (arc_value c.self.inside.base_lines) s c.in-Some.last c.self.inside.numbers.items (map arc_value c.self.inside.images.items) c.first_loose.result (length c.self.inside.images.items) refl
    (c.self.invariant.0 ∙ sym (seen_length arc_value c.self.inside.images.items)) (sym (seen_length arc_value c.self.inside.images.items))
    (ap (λ items. last_in (stamps_of (map entry_of items))) (sym c.as_slice.ensures.value) ∙ sym c.in-Some.ensures)
    (subst (λ images. MatchOption c.first_loose.result (before_loose c.args.whole c.in-Some.last (heads_in (map arc_value images)) ≡ length images)
    (λ r. IsLooseAt c.args.whole c.in-Some.last (heads_in (map arc_value images)) r.0 r.1 r.2)) c.as_slice-in-Some.ensures.value c.first_loose.ensures)) c.requires
