use Rattle.std.proofs.Common.{ℕ, List, Option, Some, ap, sym, ◌∙◌}
use Rattle.std.specs.Prelude.{slice_range}
use Rattle.file_grammar.specs.Messages.{ends, has_bytes}
use Rattle.file_grammar.specs.Sections.{Placed, placed}
use Rattle.addr_section.proofs.addresses.last_text.Goals as goal

abbrev found : ℕ → List ℕ → Option (Placed (List ℕ))
found at text = Some (placed at text)

pub returns-clause-none : goal.returns-clause-none
returns-clause-none c e = absurd (c.in-Some.ensures.fields ends e)

pub returns-clause-text : goal.returns-clause-text
returns-clause-text c at key text rest e =
    let f = c.in-Some.field in
    let n = c.in-Some.ensures.fields (has_bytes at key text rest) e in
    ap (λ (a : ℕ). found a (slice_range c.args.bytes.now f.from f.to)) n.0
    ∙ ap (found at) (ap (λ (bytes : List ℕ). slice_range bytes f.from f.to) (sym c.requires.same) ∙ n.2)
