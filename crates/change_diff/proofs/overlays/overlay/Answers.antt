use Rattle.std.proofs.Common.{◌∙◌, ap, flat_map, subst, sym}
use Rattle.std.specs.Ordering.{nat_cmp}
use Rattle.entity_store.specs.Changes.{after_changes}
use Rattle.layer_table.specs.Layers.{laid}
use Rattle.live_model.specs.Records.{records}
use Rattle.live_model.specs.Stores.{IsStore, apply}
use Rattle.ref_index.specs.Indexes.{Indexes}
use Rattle.change_diff.proofs.Differing.{all_changed}
use Rattle.change_diff.proofs.Writing.{good_after, overlay_written}
use Rattle.change_diff.proofs.overlays.overlay.Goals as goal

pub returns-clause-refs : goal.returns-clause-refs
returns-clause-refs g c = λ change.
    let store = c.args.store.now.entities in
    let map = c.args.index.now.map in
    let same = c.now-before.ensures ∙ c.in_ok-staged.ensures.entities in
    let after = c.then-after.ensures ∙ ap (λ es. after_changes es c.in_ok-staged.staged) c.in_ok-staged.ensures.entities ∙ c.in_ok-staged.ensures.staged in
    subst (Indexes (laid nat_cmp map c.in_ok-refs.refs)) after
    (c.in_ok-refs.ensures.staged (subst IsStore (sym same) change.good) change.good_lines (after ∙ ap (λ es. apply es c.args.lines.now) (sym same)) (subst (Indexes map) (sym same) change.indexed))

pub returns-clause-overlay : goal.returns-clause-overlay
returns-clause-overlay g c = λ change.
    let rules = c.args.rules.now in
    let store = c.args.store.now.entities in
    let after = c.then-after.ensures ∙ ap (λ es. after_changes es c.in_ok-staged.staged) c.in_ok-staged.ensures.entities ∙ c.in_ok-staged.ensures.staged in
    let changed =
    all_changed rules store c.now-before.result c.then-after.result c.args.lines.now c.deref.result.now
    (c.now-before.ensures ∙ c.in_ok-staged.ensures.entities) after (c.deref.ensures.value ∙ c.in_ok-ids.ensures store change.indexed) change.good change.good_lines in
    record { marks = c.in_ok-found.ensures.marks ∙ changed; records = c.in_ok-found.ensures.records ∙ (λ i. flat_map (records rules (after i)) (changed i)) }

pub returns-clause-written : goal.returns-clause-written
returns-clause-written g c = λ change.
    let rules = c.args.rules.now in
    let store = c.args.store.now.entities in
    let after = c.then-after.ensures ∙ ap (λ es. after_changes es c.in_ok-staged.staged) c.in_ok-staged.ensures.entities ∙ c.in_ok-staged.ensures.staged in
    overlay_written rules store c.args.lines.now c.in_ok-found.found.marks.items c.in_ok-found.found.records.items change.good change.good_lines (returns-clause-overlay g c change)
    (c.in_ok-found.ensures.fit (good_after store c.then-after.result c.args.lines.now after change.good change.good_lines))
