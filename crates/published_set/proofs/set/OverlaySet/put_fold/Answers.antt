use Rattle.std.proofs.Common.{◌≡◌, ℕ, ◌+◌, ◌<◌, ◌≤◌, List, ◌++◌, ◌∷◌, drop, length, map, take, sym, ap, ap₂, subst, ◌∙◌, arith}
use Rattle.std.proofs.lemmas.Bool.Decides.{nat_tests}
use Rattle.std.specs.Arc.{arc_value}
use Rattle.overlay_set.specs.Sets.{MapFile, age}
use Rattle.overlay_set.specs.Swaps.{replaced}
use Rattle.published_set.specs.Images.{image_of}
use Rattle.published_set.specs.Ops.{with_file}
use Rattle.published_set.specs.Runs.{before_run}
use Rattle.published_set.specs.Sets.{PublishedSet, entry_of, files_of, images_in}
use Rattle.published_set.proofs.Replacing.{put_length, put_none, put_run, run_found}
use Rattle.published_set.proofs.set.OverlaySet.put_fold.Goals as goal

pub put_in_place-requires-clause-some : goal.put_in_place-requires-clause-some
put_in_place-requires-clause-some c =
    let at : c.before_run-from.result ≡ before_run c.args.names.now c.self.inside.numbers.items = c.before_run-from.ensures.count ∙ ap (before_run c.args.names.now) c.as_slice.ensures.value in
    let lt : before_run c.args.names.now c.self.inside.numbers.items < length c.self.inside.numbers.items = grind (arith, nat_tests, at, c.len.ensures, c.if-from-len.true) in
    (run_found c.args.names.now c.self.inside.numbers.items lt).some

pub put_in_place-requires-clause-inside : goal.put_in_place-requires-clause-inside
put_in_place-requires-clause-inside c =
    let at : c.before_run-from.result ≡ before_run c.args.names.now c.self.inside.numbers.items = c.before_run-from.ensures.count ∙ ap (before_run c.args.names.now) c.as_slice.ensures.value in
    let lt : before_run c.args.names.now c.self.inside.numbers.items < length c.self.inside.numbers.items = grind (arith, nat_tests, at, c.len.ensures, c.if-from-len.true) in
    omega (arith, at, (run_found c.args.names.now c.self.inside.numbers.items lt).inside)

pub put_in_place-requires-then-from-len-clause-some : goal.put_in_place-requires-then-from-len-clause-some
put_in_place-requires-then-from-len-clause-some c =
    let at : c.before_run-from.result ≡ before_run c.args.names.now c.self.inside.numbers.items = c.before_run-from.ensures.count ∙ ap (before_run c.args.names.now) c.as_slice.ensures.value in
    let lt : before_run c.args.names.now c.self.inside.numbers.items < length c.self.inside.numbers.items = grind (arith, nat_tests, at, c.len.ensures, c.if-from-len.true) in
    (run_found c.args.names.now c.self.inside.numbers.items lt).some

pub put_in_place-requires-then-from-len-clause-inside : goal.put_in_place-requires-then-from-len-clause-inside
put_in_place-requires-then-from-len-clause-inside c =
    let at : c.before_run-from.result ≡ before_run c.args.names.now c.self.inside.numbers.items = c.before_run-from.ensures.count ∙ ap (before_run c.args.names.now) c.as_slice.ensures.value in
    let lt : before_run c.args.names.now c.self.inside.numbers.items < length c.self.inside.numbers.items = grind (arith, nat_tests, at, c.len.ensures, c.if-from-len.true) in
    omega (arith, at, c.self.invariant.0, (run_found c.args.names.now c.self.inside.numbers.items lt).inside)

pub invariant_of-self : goal.invariant_of-self
invariant_of-self c =
    let at : c.before_run-from.result ≡ before_run c.args.names.now c.self.inside.numbers.items = c.before_run-from.ensures.count ∙ ap (before_run c.args.names.now) c.as_slice.ensures.value in
    let lt : before_run c.args.names.now c.self.inside.numbers.items < length c.self.inside.numbers.items = grind (arith, nat_tests, at, c.len.ensures, c.if-from-len.true) in
    let found = run_found c.args.names.now c.self.inside.numbers.items lt in
    let inside : c.before_run-from.result + length c.args.names.now ≤ length c.self.inside.numbers.items = omega (arith, at, found.inside) in
    let many : length c.put_in_place.new.items.items ≡ length (take c.before_run-from.result c.self.inside.numbers.items ++ (c.args.number ∷ drop (c.before_run-from.result + length c.args.names.now) c.self.inside.numbers.items)) = ap length c.put_in_place.ensures.items in
    let as_many : length c.put_in_place-then-from-len.new.items.items ≡ length (take c.before_run-from.result c.self.inside.images.items ++ (c.args.image ∷ drop (c.before_run-from.result + length c.args.names.now) c.self.inside.images.items)) = ap length c.put_in_place-then-from-len.ensures.items in
    let numbers = put_length c.before_run-from.result (c.before_run-from.result + length c.args.names.now) c.args.number c.self.inside.numbers.items (omega arith) inside in
    let images = put_length c.before_run-from.result (c.before_run-from.result + length c.args.names.now) c.args.image c.self.inside.images.items (omega arith) (omega (arith, inside, c.self.invariant.0)) in (
      omega (arith, many, as_many, numbers, images, c.self.invariant.0),
      c.self.invariant.1,
      omega (arith, c.put_in_place.ensures.capacity, c.self.invariant.2),
      omega (arith, c.put_in_place-then-from-len.ensures.capacity, c.self.invariant.3),
      c.self.invariant.4,
      omega (arith, many, numbers, found.some, inside, c.self.invariant.5),
    )

pub returns-then-from-len : goal.returns-then-from-len
returns-then-from-len c =
    let at : c.before_run-from.result ≡ before_run c.args.names.now c.self.inside.numbers.items = c.before_run-from.ensures.count ∙ ap (before_run c.args.names.now) c.as_slice.ensures.value in
    let lt : before_run c.args.names.now c.self.inside.numbers.items < length c.self.inside.numbers.items = grind (arith, nat_tests, at, c.len.ensures, c.if-from-len.true) in
    let files : files_of c.put_in_place.new.items.items (images_in (map arc_value c.put_in_place-then-from-len.new.items.items))
    ≡ replaced c.args.names.now (record { number = c.args.number; image = image_of (arc_value c.args.image) }) (files_of c.self.inside.numbers.items (images_in (map arc_value c.self.inside.images.items))) =
    ap₂ (λ numbers images. files_of numbers (images_in (map arc_value images))) c.put_in_place.ensures.items c.put_in_place-then-from-len.ensures.items
    ∙ ap (λ (from : ℕ). files_of (take from c.self.inside.numbers.items ++ (c.args.number ∷ drop (from + length c.args.names.now) c.self.inside.numbers.items))
    (images_in (map arc_value (take from c.self.inside.images.items ++ (c.args.image ∷ drop (from + length c.args.names.now) c.self.inside.images.items))))) at
    ∙ sym (put_run arc_value c.args.names.now c.self.inside.numbers.items c.self.inside.images.items c.args.number c.args.image c.self.invariant.0 lt) in
    subst (λ (s : PublishedSet). record {
      base = arc_value c.self.inside.base_lines;
      state = record {
        history = map entry_of c.self.inside.history.items;
        files = files_of c.put_in_place.new.items.items (images_in (map arc_value c.put_in_place-then-from-len.new.items.items));
      };
    } ≡ record { base = s.base; state = with_file c.args.names.now (image_of (arc_value c.args.image)) s.state }) c.self.view_is
    (ap (λ (fs : List MapFile). record { base = arc_value c.self.inside.base_lines; state = record { history = map entry_of c.self.inside.history.items; files = fs } })
    (files ∙ ap (λ (n : ℕ). replaced c.args.names.now (record { number = n; image = image_of (arc_value c.args.image) }) (files_of c.self.inside.numbers.items (images_in (map arc_value c.self.inside.images.items))))
    (subst (λ (s : PublishedSet). c.args.number ≡ age s.state + 1) (sym c.self.view_is) c.requires)))

pub returns-else-from-len : goal.returns-else-from-len
returns-else-from-len c =
    let at : c.before_run-from.result ≡ before_run c.args.names.now c.self.inside.numbers.items = c.before_run-from.ensures.count ∙ ap (before_run c.args.names.now) c.as_slice.ensures.value in
    let ge : length c.self.inside.numbers.items ≤ before_run c.args.names.now c.self.inside.numbers.items = grind (arith, nat_tests, at, c.len.ensures, c.if-from-len.false) in
    subst (λ (s : PublishedSet). s ≡ record { base = s.base; state = with_file c.args.names.now (image_of (arc_value c.args.image)) s.state }) c.self.view_is
    (ap (λ (fs : List MapFile). record { base = arc_value c.self.inside.base_lines; state = record { history = map entry_of c.self.inside.history.items; files = fs } })
    (sym (put_none arc_value c.args.names.now c.self.inside.numbers.items c.self.inside.images.items _ c.self.invariant.0 ge)))
