use Rattle.std.proofs.Common.{◌≡◌, ℕ, ◌≤◌, List, length, map, sym, ap, subst, ◌∙◌, arith}
use Rattle.std.specs.List.{slice_range}
use Rattle.std.specs.Arc.{arc_value}
use Rattle.overlay_set.specs.Sets.{MapFile, State}
use Rattle.overlay_set.specs.Swaps.{FoldPlan, Fits}
use Rattle.published_set.specs.Sets.{IsLoosePeriod, PublishedSet, entry_of, files_of, images_in, rules_of}
use Rattle.published_set.proofs.Files.{files_copied, files_length, seen_length}
use Rattle.published_set.proofs.Heads.{loose_fits, within}
use Rattle.published_set.proofs.set.OverlaySet.plan.Goals as goal

pub numbers_between-requires : goal.numbers_between-requires
numbers_between-requires c =
    let s : State = record { history = map entry_of c.self.inside.history.items; files = files_of c.self.inside.numbers.items (images_in (map arc_value c.self.inside.images.items)) } in
    let even = c.self.invariant.0 ∙ sym (seen_length arc_value c.self.inside.images.items) in
    let room = within s c.args.from c.args.to c.args.level (subst (λ (s : PublishedSet). IsLoosePeriod s.state c.args.from c.args.to c.args.level) (sym c.self.view_is) c.requires.found) in
    let count = files_length c.self.inside.numbers.items (map arc_value c.self.inside.images.items) even in
    (room.0, subst (λ items. c.args.to ≤ length items) (sym c.as_slice.ensures.value) (omega (arith, room.1, count, even)))

pub images_between-requires : goal.images_between-requires
images_between-requires c =
    let s : State = record { history = map entry_of c.self.inside.history.items; files = files_of c.self.inside.numbers.items (images_in (map arc_value c.self.inside.images.items)) } in
    let even = c.self.invariant.0 ∙ sym (seen_length arc_value c.self.inside.images.items) in
    let room = within s c.args.from c.args.to c.args.level (subst (λ (s : PublishedSet). IsLoosePeriod s.state c.args.from c.args.to c.args.level) (sym c.self.view_is) c.requires.found) in
    let count = files_length c.self.inside.numbers.items (map arc_value c.self.inside.images.items) even in
    (room.0, subst (λ items. c.args.to ≤ length items) (sym c.as_slice-2.ensures.value) (omega (arith, room.1, count, seen_length arc_value c.self.inside.images.items)))

pub returns-clause-plan : goal.returns-clause-plan
returns-clause-plan c =
    let files = files_copied arc_value c.args.from c.args.to c.in_ok-numbers.numbers.items c.self.inside.numbers.items c.in_ok-images.images.items c.self.inside.images.items
    (c.in_ok-numbers.ensures ∙ ap (λ (l : List ℕ). slice_range l c.args.from c.args.to) c.as_slice.ensures.value)
    (c.in_ok-images.ensures ∙ ap (λ l. map arc_value (slice_range l c.args.from c.args.to)) c.as_slice-2.ensures.value) in
    subst (λ (s : PublishedSet). c.of.result ≡ record { files = slice_range s.state.files c.args.from c.args.to; level = c.args.level }) c.self.view_is
    (c.of.ensures ∙ ap (λ (fs : List MapFile). record { files = fs; level = c.args.level }) files)

pub returns-clause-fits : goal.returns-clause-fits
returns-clause-fits c =
    subst (λ (plan : FoldPlan). Fits plan c.args.self.now.state) (sym (returns-clause-plan c))
    (loose_fits (rules_of c.args.self.now) c.args.self.now.base c.args.self.now.state c.args.from c.args.to c.args.level c.requires.standing.stands c.requires.found)
