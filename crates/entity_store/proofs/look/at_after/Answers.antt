use Rattle.std.proofs.Common.{◌≡◌, ◌∙◌, ap, sym, eqb, Some, None}
use Rattle.std.specs.Prelude.{find}
use Rattle.std.specs.Ordering.{nat_cmp}
use Rattle.std.specs.Option.{option_map, option_copied}
use Rattle.layer_table.specs.Layers.{pair_at, change_seen}
use Rattle.live_model.specs.Stores.{key}
use Rattle.entity_store.specs.Changes.{changed_or}
use Rattle.entity_store.proofs.Tagging.{found_after}
use Rattle.entity_store.proofs.look.at_after.Goals as goal

pub returns-in-Some : goal.returns-in-Some
returns-in-Some c =
    let es = c.args.store.now.entities in
    let seen : Some (c.in-Some.field-0-0.now, option_copied c.in-Some.value) ≡ pair_at nat_cmp c.args.place c.args.staged.now = ap (option_map change_seen) (sym c.in-Some.is) ∙ c.at.ensures.found in
    ap (λ p. changed_or p (find (λ e. eqb (key e) c.args.place) es)) seen
    ∙ sym (found_after c.args.place es c.args.staged.now c.at.ensures.rising c.at.ensures.keyed)

pub returns-in-None : goal.returns-in-None
returns-in-None c =
    let es = c.args.store.now.entities in
    let seen : None ≡ pair_at nat_cmp c.args.place c.args.staged.now = ap (option_map change_seen) (sym c.in-None.is) ∙ c.at.ensures.found in
    c.at-in-None.ensures.found
    ∙ ap (λ p. changed_or p (find (λ e. eqb (key e) c.args.place) es)) seen
    ∙ sym (found_after c.args.place es c.args.staged.now c.at.ensures.rising c.at.ensures.keyed)
