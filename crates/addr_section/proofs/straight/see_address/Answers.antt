use Rattle.std.proofs.Common.{ℕ, refl, ap, subst}
use Rattle.obf_wire.specs.Fields.{Window, part_of}
use Rattle.obf_wire.specs.KnownKeys.{StandsFirst}
use Rattle.obf_wire.specs.Windows.{range_of}
use Rattle.boxed_check.specs.Points.{ArePointsSeen}
use Rattle.live_model.specs.declared.points.Rect.{Rect}
use Rattle.boxed_exact.specs.declared.fields.Number.{Number}
use Rattle.addr_section.proofs.StraightLines.{address_is}
use Rattle.addr_section.proofs.straight.see_address.Goals as goal

pub returns : goal.returns
returns c =
    let w : Window = range_of c.args.window in
    let a = c.in-Some.ordinal in
    let b = c.in-Some-expected.kind in
    let f = c.in-Some-expected-5.points in
    let first = subst (λ (from : ℕ). StandsFirst (part_of c.args.window.bytes.now from c.args.window.to) 8 a) c.from.ensures c.in-Some.ensures in
    let grid : Rect = record { left = 0; top = 0; right = 3600000000; bottom = 1800000000 } in
    let points = subst (λ (v : Window). ArePointsSeen v grid c.in-Some-points_in.count) c.part.ensures.range c.in-Some-points_in.ensures in
    address_is c.args.version w a b c.in-Some-expected-2.key c.in-Some-expected-3.name c.in-Some-expected-4.number f grid c.in-Some-points_in.count c.args.at _ (record { ordered = c.args.window.ordered; within = c.args.window.within })
    first c.in-Some-expected.ensures c.in-Some-expected-2.ensures c.in-Some-expected-3.ensures c.in-Some-expected-4.ensures c.in-Some-expected-5.ensures points c.in-Some-see_lang.ensures refl
    (ap (λ (n : Number). n.at) c.number_of.ensures, ap (λ (n : Number). n.value) c.number_of.ensures)
    (ap (λ (n : Number). n.at) c.number_of-2.ensures, ap (λ (n : Number). n.value) c.number_of-2.ensures)
    (c.text_of.ensures.at, c.text_of.ensures.text) (c.text_of-2.ensures.at, c.text_of-2.ensures.text) (c.text_of-3.ensures.at, c.text_of-3.ensures.text)
    refl c.all_on_grid.ensures.count c.all_on_grid.ensures.grid
