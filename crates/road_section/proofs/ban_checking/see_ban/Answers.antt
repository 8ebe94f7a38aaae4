use Rattle.std.proofs.Common.{◌≡◌, ◌+◌, ◌∙◌, ℕ, Ok, refl, sym, ap, subst}
use Rattle.obf_wire.specs.Fields.{Window}
use Rattle.file_grammar.specs.Readings.{numbers_at}
use Rattle.road_section.proofs.ban_checking.see_ban.Goals as goal

pub returns-clause-seen : goal.returns-clause-seen
returns-clause-seen c fields e =
    let r = c.read_ban-fields.ensures.read fields e in
    let there = subst (λ (w : Window). numbers_at w ≡ Ok r.numbers) (sym c.part-points.ensures.range) r.points in
    record {
      at = refl;
      ordinal = ap (λ (n : ℕ). c.args.ordinal + n) (c.from.ensures ∙ c.read_ban-fields.ensures.step fields e);
      numbers = r.numbers;
      fields = r.is;
      count = c.see_points.ensures.count r.numbers there;
      on_grid = c.see_points.ensures.on_grid r.numbers there;
      in_box = c.see_points.ensures.in_box r.numbers there;
    }
