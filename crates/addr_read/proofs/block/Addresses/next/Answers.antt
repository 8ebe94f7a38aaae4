use Rattle.std.proofs.Common.{◌∙◌, ℕ, List, ap, sym}
use Rattle.obf_wire.specs.Fields.{part_of}
use Rattle.obf_wire.specs.Windows.{range_of}
use Rattle.addr_read.proofs.BlockWalk.{stepped}
use Rattle.addr_read.proofs.block.Addresses.next.Goals as goal

pub at-requires : goal.at-requires
at-requires c =
    let s = c.self.inside in
    let f = c.in-Some.field in
    let there = c.part-window.ensures.range ∙ ap (λ (bytes : List ℕ). part_of bytes f.from f.to) (sym c.self.invariant.0) in
    (stepped s.version (range_of c.part-window.result) s.walk c.next.new.self f c.self.invariant.1 there c.in-Some.ensures.part c.in-Some.ensures.window c.in-Some.ensures.fields).sound

pub invariant_of-self-2 : goal.invariant_of-self-2
invariant_of-self-2 c =
    let s = c.self.inside in
    let f = c.in-Some.field in
    let there = c.part-window.ensures.range ∙ ap (λ (bytes : List ℕ). part_of bytes f.from f.to) (sym c.self.invariant.0) in (
      c.in-Some.ensures.same.0 ∙ c.self.invariant.0,
      (stepped s.version (range_of c.part-window.result) s.walk c.next.new.self f c.self.invariant.1 there c.in-Some.ensures.part c.in-Some.ensures.window c.in-Some.ensures.fields).later,
    )

pub returns : goal.returns
returns c =
    let s = c.self.inside in
    let f = c.in-Some.field in
    let there = c.part-window.ensures.range ∙ ap (λ (bytes : List ℕ). part_of bytes f.from f.to) (sym c.self.invariant.0) in
    rw (← c.self.view_is)
    ((stepped s.version (range_of c.part-window.result) s.walk c.next.new.self f c.self.invariant.1 there c.in-Some.ensures.part c.in-Some.ensures.window c.in-Some.ensures.fields).first c.at.result c.at.ensures)
