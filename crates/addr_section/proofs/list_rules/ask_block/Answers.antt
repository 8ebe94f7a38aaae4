use Rattle.std.proofs.Common.{ℕ, Bool, ap, sym, ◌∙◌}
use Rattle.std.specs.Prelude.{◌&&◌, length, nat_le}
use Rattle.obf_wire.specs.declared.file.FileKind.TheVariants.{BadCount}
use Rattle.file_grammar.specs.Facts.{earlier, fact, failing}
use Rattle.addr_section.proofs.list_rules.ask_block.Goals as goal

pub returns : goal.returns
returns c keys it are at_is counted head tail =
    let start = c.args.first.now in
    let few = c.is_count.ensures ∙ ap (λ (n : ℕ). nat_le 1 n && nat_le n 64) counted in record {
      mid = c.ask.new.self;
      count = c.ask.ensures ∙ ap (λ (b : Bool). earlier start (failing (fact c.args.at BadCount b))) few
          ∙ ap (λ (at : ℕ). earlier start (failing (fact at BadCount (nat_le 1 (length it.addresses) && nat_le (length it.addresses) 64)))) (sym at_is);
      pair = c.ask_pair.ensures keys it are at_is head tail;
    }
