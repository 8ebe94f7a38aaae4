use Rattle.std.proofs.Common.{◌≡◌, ◌+◌, ◌∙◌, ℕ, Ok, refl, sym, ap, subst}
use Rattle.obf_wire.specs.Fields.{Window}
use Rattle.file_grammar.specs.Readings.{numbers_at}
use Rattle.road_section.proofs.road_checking.see_road.Goals as goal

pub returns-clause-seen : goal.returns-clause-seen
returns-clause-seen c fields e =
    let r = c.read_road-fields.ensures.read fields e in
    let there = subst (λ (w : Window). numbers_at w ≡ Ok r.numbers) (sym c.part-nodes.ensures.range) r.nodes in
    record {
      at = refl;
      ordinal = ap (λ (n : ℕ). c.args.ordinal + n) (c.from.ensures ∙ c.read_road-fields.ensures.step fields e);
      numbers = r.numbers;
      fields = r.is;
      nodes = c.see_nodes.ensures r.numbers there;
    }
