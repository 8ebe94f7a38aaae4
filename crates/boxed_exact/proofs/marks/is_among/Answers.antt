use Rattle.std.proofs.Common.{sym, arith}
use Rattle.boxed_exact.proofs.MarkSearch.{any_none}
use Rattle.boxed_exact.proofs.marks.is_among.Goals as goal

pub returns-then-n-gt18446744073709551615 : goal.returns-then-n-gt18446744073709551615
returns-then-n-gt18446744073709551615 c =
    sym (any_none c.args.ordinals.now c.args.n (λ k inside e. let fits = c.type_inv.ordinals k in omega (arith, fits, e, c.if-n-gt18446744073709551615.true)))
