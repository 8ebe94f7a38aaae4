use Rattle.std.proofs.Common.{◌≤◌, ℕ, List, length, ap, sym, subst, ◌∙◌, arith}
use Rattle.obf_wire.specs.Fields.{IsWindow, part_of}
use Rattle.obf_wire.specs.Windows.{range_of}
use Rattle.file_grammar.specs.Walks.{Standing}
use Rattle.addr_section.proofs.ListShape.{list_all_kept, list_begin, list_on}
use Rattle.addr_section.proofs.layout.list_in.Goals as goal

pub loop-field-init : goal.loop-field-init
loop-field-init c = record {
  left = λ fields e. list_begin c.args.version c.args.window.bytes.now fields _ (range_of c.args.window) c.new-walk.result c.new-walk.ensures c.new-entries.ensures.items c.new-blocks.ensures.items e;
  part = ap (λ (s : Standing). s.part) c.new-walk.ensures;
  window = subst (λ (s : Standing). IsWindow s.window) (sym c.new-walk.ensures) (record { ordered = c.args.window.ordered; within = c.args.window.within });
  same = ap (λ (s : Standing). s.window.bytes) c.new-walk.ensures;
}

pub put_field-requires-clause-within : goal.put_field-requires-clause-within
put_field-requires-clause-within c =
    let inv = c.loop-field.invariant in
    let few : c.loop-field.walk.window.end ≤ length c.args.window.bytes.now = subst (λ (bytes : List ℕ). c.loop-field.walk.window.end ≤ length bytes) inv.same inv.window.within in
    let ends = c.in-Some.ensures.inside.0.ends in
    omega (arith, few, ends)

pub loop-field-preserved : goal.loop-field-preserved
loop-field-preserved c =
    let inv = c.loop-field.invariant in
    let f = c.in-Some.field in
    let few : c.loop-field.walk.window.end ≤ length c.args.window.bytes.now = subst (λ (bytes : List ℕ). c.loop-field.walk.window.end ≤ length bytes) inv.same inv.window.within in
    let ends = c.in-Some.ensures.inside.0.ends in
    let inside : IsWindow (part_of c.args.window.bytes.now f.from f.to) = record { ordered = c.in-Some.ensures.inside.0.ordered; within = omega (arith, few, ends) } in
    record {
      left = λ fields e. list_on c.args.version c.args.window.bytes.now fields c.loop-field.list c.put_field.new.list c.loop-field.walk c.next.new.self f (inv.left fields e) inv.part inv.same c.in-Some.ensures.fields inside c.in_ok-put_field.ensures;
      part = c.in-Some.ensures.part ∙ inv.part;
      window = c.in-Some.ensures.window;
      same = c.in-Some.ensures.same.0 ∙ inv.same;
    }

pub returns : goal.returns
returns c fields e = list_all_kept c.args.version c.args.window.bytes.now fields c.loop-field.list c.loop-field.walk (c.loop-field.invariant.left fields e) c.in_default.ensures.fields
