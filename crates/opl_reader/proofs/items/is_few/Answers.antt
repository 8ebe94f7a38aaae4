use Rattle.std.proofs.Common.{◌<◌, length, ap, sym, ◌∙◌, nat_lt, arith}
use Rattle.opl_reader.proofs.ItemSteps.{few_commas}
use Rattle.opl_reader.proofs.items.is_few.Goals as goal

pub returns-else-is_empty : goal.returns-else-is_empty
returns-else-is_empty c =
    let some : 0 < length c.args.value.now = grind arith in
    ap (λ n. nat_lt n 65535) c.commas.ensures ∙ sym (few_commas c.args.value.now some)
