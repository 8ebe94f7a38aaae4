use Rattle.std.proofs.Common.{ℕ, List, arith}
use Rattle.obf_wire.specs.Fields.{Window, IsWindow}
use Rattle.obf_wire.proofs.NextField.{found_of, field_only, field_end}
use Rattle.obf_wire.proofs.cursor.next_at.Goals as goal

abbrev window : List ℕ → ℕ → ℕ → Window
window bytes at end = record { bytes = bytes; place = at; end = end }

pub returns-clause-found : goal.returns-clause-found
returns-clause-found c =
    let in_range : IsWindow (window c.args.bytes.now c.args.at c.args.end) = record { ordered = c.requires.from_in; within = c.requires.end_in } in
    found_of (window c.args.bytes.now c.args.at c.args.end) c.args.allowed.now c.args.may_end c.field_at.result in_range (λ i. omega (arith, c.type_inv.bytes i)) c.field_at.ensures.exact

pub returns-clause-only : goal.returns-clause-only
returns-clause-only c f next =
    let in_range : IsWindow (window c.args.bytes.now c.args.at c.args.end) = record { ordered = c.requires.from_in; within = c.requires.end_in } in
    rw c.field_at.ensures.exact (field_only (window c.args.bytes.now c.args.at c.args.end) c.args.allowed.now c.args.may_end f in_range next)

pub returns-clause-end : goal.returns-clause-end
returns-clause-end c = rw c.field_at.ensures.exact (field_end (window c.args.bytes.now c.args.at c.args.end) c.args.allowed.now c.args.may_end)
