use Rattle.std.proofs.Common.{ℕ, sym, subst, arith}
use Rattle.obf_wire.specs.Fields.{part_of}
use Rattle.obf_wire.specs.KnownKeys.{StandsFirst}
use Rattle.obf_wire.specs.Windows.{range_of}
use Rattle.boxed_exact.specs.declared.fields.Payload.{Payload}
use Rattle.road_section.specs.Routing.{AreParts}
use Rattle.road_section.proofs.Parts.{span_of, straight_parts}
use Rattle.road_section.proofs.section.spans_of.Goals as goal

pub returns-clause-parts : goal.returns-clause-parts
returns-clause-parts c =
    let w = range_of c.args.window in
    let first = subst (λ (at : ℕ). StandsFirst (part_of c.args.window.bytes.now at c.args.window.to) 14 c.in-Some.roads) c.from.ensures c.in-Some.ensures in
    let parts = straight_parts w c.in-Some.roads c.in-Some-expected_wide.bans (record { ordered = c.args.window.ordered; within = c.args.window.within }) first c.in-Some-expected_wide.ensures (omega arith) in
    subst (λ (bans : Payload). AreParts w (record { roads = c.span_of.result; bans = bans })) (sym c.span_of-2.ensures)
    (subst (λ (roads : Payload). AreParts w (record { roads = roads; bans = span_of c.in-Some-expected_wide.bans })) (sym c.span_of.ensures) parts)
