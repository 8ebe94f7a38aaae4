use Rattle.std.proofs.Common.{◌≡◌, ℕ, List, length, true, sym, subst, arith, rules}
use Rattle.std.specs.Prelude.{nat_lt, slice_range}
use Rattle.live_model.specs.Rules.{is_category}
use Rattle.obf_wire.specs.Fields.{Window, part_of}
use Rattle.obf_wire.specs.KnownKeys.{StandsFirst}
use Rattle.obf_wire.specs.Windows.{range_of}
use Rattle.file_grammar.specs.declared.parts.Boxed.TheVariants.{Poi}
use Rattle.file_grammar.specs.PoiRules.{poi_boxing}
use Rattle.boxed_exact.specs.Sides.{beside}
use Rattle.boxed_exact.specs.declared.fields.Payload.{Payload}
use Rattle.boxed_check.specs.Keeping.{IsKept}
use Rattle.poi_section.specs.Groups.{IsGoodGroup}
use Rattle.poi_section.proofs.GroupWalk.{good_group}
use Rattle.poi_section.proofs.one_pass.see_group.Goals as goal

pub returns : goal.returns
returns c =
    let w : Window = range_of c.args.window in
    let side = beside c.args.around.now in
    let first = subst (λ (at : ℕ). StandsFirst (part_of c.args.window.bytes.now at c.args.window.to) 10 c.in-Some.category) c.from.ensures c.in-Some.ensures in
    let told : IsKept Poi poi_boxing side (range_of c.part.result) c.in-Some-found.kept = (let h = c.in_ok-found.ensures in search rules) in
    let kept = subst (λ (v : Window). IsKept Poi poi_boxing side v c.in-Some-found.kept) c.part.ensures.range told in
    let named = subst (λ (bytes : List ℕ). is_category (slice_range bytes c.in-Some.category.from c.in-Some.category.to) ≡ true) c.all.ensures (search rules) in
    let some = subst (λ (n : List Payload). nat_lt 0 (length n) ≡ true) c.blocks-2.ensures (search rules) in
    let good = good_group side w c.in-Some.category c.in-Some-expected_wide.records c.in-Some-found.kept (record { ordered = c.args.window.ordered; within = c.args.window.within }) first c.in-Some-expected_wide.ensures (omega arith) named kept some in
    record {
      good = subst (λ (p : Payload). IsGoodGroup side w (record { category = p; records = c.span_of-2.result; kept = c.in-Some-found.kept })) (sym c.span_of.ensures)
          (subst (λ (p : Payload). IsGoodGroup side w (record { category = record { at = c.in-Some.category.at; from = c.in-Some.category.from; to = c.in-Some.category.to }; records = p; kept = c.in-Some-found.kept })) (sym c.span_of-2.ensures) good);
    }
