use Rattle.std.proofs.Common.{◌≡◌, ℕ, Some, subst}
use Rattle.file_grammar.specs.declared.parts.Content.TheVariants.{Message}
use Rattle.file_grammar.specs.Messages.{has_bytes, has_numbers, has_message}
use Rattle.file_grammar.specs.Tables.{content_of}
use Rattle.boxed_exact.proofs.fields.next_payload.Goals as goal

pub returns-in-Some-clause-text : goal.returns-in-Some-clause-text
returns-in-Some-clause-text c at key text rest e = let n = c.in-Some.ensures.fields (has_bytes at key text rest) e in (n.0, n.2, n.3)

pub returns-in-Some-clause-numbers : goal.returns-in-Some-clause-numbers
returns-in-Some-clause-numbers c at key values rest e = let n = c.in-Some.ensures.fields (has_numbers at key values rest) e in (n.0, n.2, n.3)

pub returns-in-Some-clause-message : goal.returns-in-Some-clause-message
returns-in-Some-clause-message c at key inner rest e =
    let n = c.in-Some.ensures.fields (has_message at key inner rest) e in
    let row = subst (λ (k : ℕ). content_of c.args.walk.now.part k ≡ Some (Message n.2.part)) n.1 n.2.content in
    (n.0, record { part = n.2.part; content = row; read = n.2.read }, n.3)
