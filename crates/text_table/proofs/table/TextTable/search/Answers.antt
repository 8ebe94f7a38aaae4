use Rattle.std.proofs.Common.{◌≡◌, rules, sym, subst}
use Rattle.std.proofs.lemmas.Fn.{always_returns_same}
use Rattle.text_table.specs.Tables.{text_cmp, IsTable}
use Rattle.text_table.proofs.Rising.{searched}
use Rattle.text_table.proofs.table.TextTable.search.Goals as goal

-- the closure compares with the text, and the slice is the table's texts
pub returns-clause-place : goal.returns-clause-place
returns-clause-place c =
    let facts = c.binary_search_by.ensures in
    let by_text = facts.position (λ t. text_cmp t c.args.text.now) (always_returns_same _ (λ a r. r ≡ text_cmp a.0.now c.args.text.now) _ (λ a r f' called. search rules)) in
    rw (← c.self.view_is, ← c.deref.ensures.value) (searched c.args.text.now c.deref.result.now c.binary_search_by.result (subst IsTable (sym c.deref.ensures.value) c.self.invariant) facts.bound by_text)
