use Rattle.std.proofs.Common.{◌≡◌, length, ◌∙◌, rules}
use Rattle.std.proofs.lemmas.Result.{on_ok_weaker}
use Rattle.obf_wire.proofs.Begun.{short_ended, long_ended}
use Rattle.obf_wire.proofs.out.Out.end_short.Goals as goal

pub returns-then-len-lt128-clause-ok : goal.returns-then-len-lt128-clause-ok
returns-then-len-lt128-clause-ok c =
    let long : c.self.inside.bytes.len ≡ length c.self.inside.bytes.items = search rules in
    λ number before payload is at.
    short_ended c.args.start c.len.result number c.self.inside.bytes.items before payload (c.len.ensures ∙ long) c.if-len-lt128.true (c.self.view_is ∙ is) at

pub returns-clause-ok : goal.returns-clause-ok
returns-clause-ok c = on_ok_weaker c.put_length_before.result (λ made number before payload is at. long_ended c.args.start number c.args.self.now before payload c.put_length_before.new.self made is at) c.put_length_before.ensures.ok
