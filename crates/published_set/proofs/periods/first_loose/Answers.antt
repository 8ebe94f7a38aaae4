use Rattle.std.proofs.Common.{◌≡◌, ℕ, ◌+◌, List, None, map, sym, ap, ap₂, subst, ◌∙◌}
use Rattle.std.specs.Arc.{arc_value}
use Rattle.std.specs.List.{prefix_len}
use Rattle.live_model.specs.declared.levels.Level.{Level}
use Rattle.stamp_core.specs.declared.head.Head.{Head}
use Rattle.overlay_set.specs.Periods.{Period}
use Rattle.overlay_set.specs.Loose.{begins_in}
use Rattle.published_set.specs.Sets.{heads_in, hour_at}
use Rattle.published_set.proofs.Files.{heads_from, heads_length}
use Rattle.published_set.proofs.Heads.{no_loose}
use Rattle.published_set.proofs.periods.first_loose.Goals as goal

pub returns-in-None : goal.returns-in-None
returns-in-None c =
    no_loose c.args.whole c.args.last.now (heads_in (map arc_value c.args.images.now))
    (subst (λ (n : ℕ). hour_at (heads_in (map arc_value c.args.images.now)) n ≡ None) c.before_loose-from.ensures.count (sym c.in-None.ensures)) ∙ heads_length arc_value c.args.images.now

pub returns-in-Some : goal.returns-in-Some
returns-in-Some c = record {
  hour = c.in-Some.hour;
  begins = sym c.in-Some.ensures;
  from_is = c.before_loose-from.ensures.count;
  to_is = ap (λ (n : ℕ). c.before_loose-from.result + n) (c.count_in-count.ensures.count
      ∙ ap₂ (λ (p : Period) (heads : List Head). prefix_len (begins_in p) heads) (ap (λ (l : Level). record { level = l; hour = c.in-Some.hour }) c.level_before-level.ensures)
      (heads_from arc_value c.before_loose-from.result c.args.images.now));
  level_is = c.level_before-level.ensures;
}
