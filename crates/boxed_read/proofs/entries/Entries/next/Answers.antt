use Rattle.std.proofs.Common.{◌∙◌, ℕ, List, arith, ap, sym}
use Rattle.obf_wire.specs.Fields.{part_of}
use Rattle.obf_wire.specs.Windows.{range_of}
use Rattle.boxed_read.proofs.EntryWalk.{stepped}
use Rattle.boxed_read.proofs.entries.Entries.next.Goals as goal

pub overflow_add-ordinal : goal.overflow_add-ordinal
overflow_add-ordinal g c =
    let s = c.self.inside in
    let f = c.in-Some.field in
    let there = c.part-window.ensures.range ∙ ap (λ (bytes : List ℕ). part_of bytes f.from f.to) (sym c.self.invariant.0) in
    let one = stepped g.C.CheckClass.class g.C.CheckClass.boxing g.C.ReadClass.reads g.C.ReadClass.id_of g.met.C.ReadClass.reading s.group.now (range_of s.texts) (range_of c.part-window.result) s.before c.step_in.result s.walk c.next.new.self f
    c.self.invariant.1 there c.step_in.ensures c.in-Some.ensures.part c.in-Some.ensures.window c.in-Some.ensures.fields in
    omega (arith, one.fits)

pub new-requires : goal.new-requires
new-requires g c =
    let s = c.self.inside in
    let f = c.in-Some.field in
    let there = c.part-window.ensures.range ∙ ap (λ (bytes : List ℕ). part_of bytes f.from f.to) (sym c.self.invariant.0) in
    (stepped g.C.CheckClass.class g.C.CheckClass.boxing g.C.ReadClass.reads g.C.ReadClass.id_of g.met.C.ReadClass.reading s.group.now (range_of s.texts) (range_of c.part-window.result) s.before c.step_in.result s.walk c.next.new.self f
    c.self.invariant.1 there c.step_in.ensures c.in-Some.ensures.part c.in-Some.ensures.window c.in-Some.ensures.fields).sound

pub invariant_of-self : goal.invariant_of-self
invariant_of-self g c =
    let s = c.self.inside in
    let f = c.in-Some.field in
    let there = c.part-window.ensures.range ∙ ap (λ (bytes : List ℕ). part_of bytes f.from f.to) (sym c.self.invariant.0) in (
      c.in-Some.ensures.same.0 ∙ c.self.invariant.0,
      (stepped g.C.CheckClass.class g.C.CheckClass.boxing g.C.ReadClass.reads g.C.ReadClass.id_of g.met.C.ReadClass.reading s.group.now (range_of s.texts) (range_of c.part-window.result) s.before c.step_in.result s.walk c.next.new.self f
          c.self.invariant.1 there c.step_in.ensures c.in-Some.ensures.part c.in-Some.ensures.window c.in-Some.ensures.fields).later,
    )

pub returns-in-Some : goal.returns-in-Some
returns-in-Some g c =
    let s = c.self.inside in
    let f = c.in-Some.field in
    let there = c.part-window.ensures.range ∙ ap (λ (bytes : List ℕ). part_of bytes f.from f.to) (sym c.self.invariant.0) in
    rw (← c.self.view_is) rw c.new.ensures
    (stepped g.C.CheckClass.class g.C.CheckClass.boxing g.C.ReadClass.reads g.C.ReadClass.id_of g.met.C.ReadClass.reading s.group.now (range_of s.texts) (range_of c.part-window.result) s.before c.step_in.result s.walk c.next.new.self f
    c.self.invariant.1 there c.step_in.ensures c.in-Some.ensures.part c.in-Some.ensures.window c.in-Some.ensures.fields).first
