use Rattle.std.proofs.Common.{rules, ◌≡◌, ℕ, List, [], ◌∷◌, ◌++◌, nat_cmp, sym, ap, subst, ◌∙◌}
use Rattle.std.specs.Arc.{arc_value}
use Rattle.layer_table.specs.Layers.{laid}
use Rattle.entity_store.specs.Changes.{after_changes}
use Rattle.ref_index.specs.Indexes.{Indexes}
use Rattle.live_model.specs.declared.objects.Entity.{Entity}
use Rattle.live_model.specs.declared.objects.Line.{Line}
use Rattle.live_model.specs.Ids.{Id}
use Rattle.live_model.specs.Stores.{apply}
use Rattle.overlay_set.specs.Sets.{Entry}
use Rattle.overlay_set.specs.Swaps.{Add, Swap}
use Rattle.published_set.specs.Images.{image_of}
use Rattle.published_set.specs.Sets.{entry_of}
use Rattle.set_events.specs.Kept.{entry_for}
use Rattle.board_journal.specs.declared.shown.Shown.{Shown}
use Rattle.live_board.specs.Events.{entry_swap}
use Rattle.live_board.proofs.Desks.{adds_agree, beside, entry_made}
use Rattle.live_board.proofs.desk.Desk.add.Goals as goal

pub prepare-requires-clause-kept : goal.prepare-requires-clause-kept
prepare-requires-clause-kept g c =
    rw (c.published.ensures)
    (beside g.N.BoardName.book g.N.BoardName.rules g.N.BoardName.base c.self.inside.pen.desk.shown.value c.self.inside.front c.self.inside.total.total c.self.inside.store.entities c.self.inside.index.map
    c.self.invariant.0 c.self.invariant.1 c.self.invariant.3)

pub next_change-requires-clause-comes : goal.next_change-requires-clause-comes
next_change-requires-clause-comes g c =
    let entry : Entry = entry_for c.args.stamp c.args.tag (arc_value c.args.lines.now) in
    let same : Add (entry_of c.in_ok-prepared.prepared.published) (image_of (arc_value c.in_ok-prepared.prepared.image)) ≡ entry_swap g.N.BoardName.rules g.N.BoardName.base c.self.inside.front entry =
    entry_made g.N.BoardName.book g.N.BoardName.rules g.N.BoardName.base c.self.inside.pen.desk.shown.value c.published.result.now c.self.inside.front entry _ _ c.self.invariant.0 c.self.invariant.1 c.published.ensures
    c.in_ok-prepared.ensures.entry c.in_ok-prepared.ensures.image in
    rw (same, c.self.view_is) c.requires.comes

pub invariant_of-self-2 : goal.invariant_of-self-2
invariant_of-self-2 g c =
    let changed : c.commit.new.self.entities ≡ apply c.self.inside.store.entities (arc_value c.args.lines.now) =
    c.commit.ensures.entities ∙ ap (λ (es : List Entity). after_changes es c.in_ok-prepared.prepared.staged) c.prepare.ensures.entities ∙ c.in_ok-prepared.ensures.staged in (
      search rules,
      search rules,
      search rules,
      adds_agree g.N.BoardName.rules g.N.BoardName.base c.self.inside.front c.in-Some.after (entry_of c.in_ok-prepared.prepared.published) (image_of (arc_value c.in_ok-prepared.prepared.image)) c.self.inside.total.total
          c.count.new.total.total c.self.inside.store.entities c.commit.new.self.entities c.self.inside.index.map c.commit-2.new.self.map c.self.invariant.3 c.in-Some.ensures.after c.count.ensures.total
          (changed ∙ ap (λ (e : Entry). apply c.self.inside.store.entities e.lines) (sym c.in_ok-prepared.ensures.entry))
          (subst (λ (m : List (ℕ × List Id)). Indexes m c.commit.new.self.entities) (sym (c.commit-2.ensures.map ∙ ap (λ (m : List (ℕ × List Id)). laid nat_cmp m c.in_ok-prepared.prepared.refs) c.prepare.ensures.users))
          (subst (λ (es : List Entity). Indexes (laid nat_cmp c.self.inside.index.map c.in_ok-prepared.prepared.refs) es) (sym changed) c.in_ok-prepared.ensures.refs)),
      c.self.invariant.4,
      c.self.invariant.5,
    )

pub returns-clause-done : goal.returns-clause-done
returns-clause-done g c =
    let entry : Entry = entry_for c.args.stamp c.args.tag (arc_value c.args.lines.now) in
    let same : Add (entry_of c.in_ok-prepared.prepared.published) (image_of (arc_value c.in_ok-prepared.prepared.image)) ≡ entry_swap g.N.BoardName.rules g.N.BoardName.base c.self.inside.front entry =
    entry_made g.N.BoardName.book g.N.BoardName.rules g.N.BoardName.base c.self.inside.pen.desk.shown.value c.published.result.now c.self.inside.front entry _ _ c.self.invariant.0 c.self.invariant.1 c.published.ensures
    c.in_ok-prepared.ensures.entry c.in_ok-prepared.ensures.image in
    rw (← c.self.view_is) (c.in-Some.ensures.after ∙ ap (λ (s : Swap). c.self.inside.front ++ s ∷ []) same)
