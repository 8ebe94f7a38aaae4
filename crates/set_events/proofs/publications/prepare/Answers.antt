use Rattle.std.proofs.Common.{◌≡◌, rules, List, nat_cmp, ap, subst, sym, ◌∙◌}
use Rattle.std.specs.Arc.{arc_value}
use Rattle.layer_table.specs.Layers.{laid}
use Rattle.live_model.specs.declared.objects.Entity.{Entity}
use Rattle.live_model.specs.declared.objects.Line.{Line}
use Rattle.live_model.specs.Stores.{IsStore, apply}
use Rattle.overlay_set.specs.Swaps.{common_rules}
use Rattle.published_set.specs.Images.{image_of}
use Rattle.published_set.specs.Sets.{entry_of, rules_of}
use Rattle.set_events.specs.Kept.{entry_for}
use Rattle.set_events.proofs.Preparing.{kept_store, run_made}
use Rattle.set_events.proofs.publications.prepare.Goals as goal

pub changed-requires : goal.changed-requires
changed-requires g c = record {
  good = subst (λ (es : List Entity). IsStore es) (sym c.requires.kept.after_history) (kept_store c.args.set.now c.args.store.now.entities c.args.index.now.map c.requires.kept);
  indexed = c.requires.kept.indexed;
  good_lines = search rules;
}

pub returns-clause-image : goal.returns-clause-image
returns-clause-image g c =
    run_made c.args.set.now c.args.store.now.entities c.args.index.now.map (entry_for c.args.stamp c.args.tag (arc_value c.args.lines.now)) (image_of (arc_value c.in_ok-image.image))
    c.rules_in-rules.result.now c.rules_in-rules.result.now c.as_slice.result.now c.in_ok-change.change.marks.items c.in_ok-change.change.records.items c.requires.kept c.requires.good c.in_ok-image.ensures
    (c.rules_in-rules.ensures ∙ ap common_rules c.images.ensures) c.in_ok-change.ensures.overlay (c.rules_in-rules.ensures ∙ ap common_rules c.images.ensures) (c.as_slice.ensures ∙ c.deref.ensures)
