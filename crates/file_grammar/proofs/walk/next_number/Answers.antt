use Rattle.std.proofs.Common.{◌∙◌, ℕ, List, ap, le_of_lt}
use Rattle.obf_wire.specs.Varint.{varint_at}
use Rattle.obf_wire.specs.Fields.{IsWindow}
use Rattle.file_grammar.proofs.Lists.{counts_on, counts_none}
use Rattle.file_grammar.proofs.walk.next_number.Goals as goal

pub returns-in-Ok-clause-on : goal.returns-in-Ok-clause-on
returns-in-Ok-clause-on c =
    let window : IsWindow (record { bytes = c.args.window.bytes.now; place = c.args.at; end = c.args.window.to }) = record { ordered = le_of_lt c.requires; within = c.args.window.within } in
    let is = c.read_varint.ensures.exact ∙ ap (λ (bytes : List ℕ). varint_at bytes c.args.at c.to.result) c.all.ensures ∙ ap (λ (to : ℕ). varint_at c.args.window.bytes.now c.args.at to) c.to.ensures in
    counts_on (record { bytes = c.args.window.bytes.now; place = c.args.at; end = c.args.window.to }) c.read_varint.result _ c.in-Ok.next window c.requires is c.in-Ok.is

pub returns-in-Err-clause-broken : goal.returns-in-Err-clause-broken
returns-in-Err-clause-broken c =
    let window : IsWindow (record { bytes = c.args.window.bytes.now; place = c.args.at; end = c.args.window.to }) = record { ordered = le_of_lt c.requires; within = c.args.window.within } in
    let is = c.read_varint.ensures.exact ∙ ap (λ (bytes : List ℕ). varint_at bytes c.args.at c.to.result) c.all.ensures ∙ ap (λ (to : ℕ). varint_at c.args.window.bytes.now c.args.at to) c.to.ensures in
    rw c.from.ensures (counts_none (record { bytes = c.args.window.bytes.now; place = c.args.at; end = c.args.window.to }) c.read_varint.result c.in-Err.b window c.requires is c.in-Err.is)
