use Rattle.std.proofs.Common.{◌≡◌, ◌∙◌, ℕ, arith, ap, slice_get}
use Rattle.text_table.proofs.Walk.{past_end, passed_more, text_at}
use Rattle.text_table.proofs.reading.Texts.get.Goals as goal

pub returns-in_err-behind : goal.returns-in_err-behind
returns-in_err-behind c texts a =
    rw c.from_residual.ensures (omega (arith, past_end c.args.self.now c.loop.rest.now c.loop.counter c.loop.invariant c.in_err-behind.ensures texts a))

pub loop-preserved : goal.loop-preserved
loop-preserved c =
    passed_more c.args.self.now c.loop.rest.now c.in_ok-behind.field-0-0.now c.in_ok-behind.behind.now c.loop.counter c.loop.invariant c.in_ok-behind.ensures

pub returns-in_err-text : goal.returns-in_err-text
returns-in_err-text c texts a =
    rw c.from_residual-in_err-text.ensures (omega (arith, past_end c.args.self.now c.loop.rest.now c.loop.counter c.loop.invariant c.in_err-text.ensures texts a))

pub returns : goal.returns
returns c texts a =
    let there : c.args.index ≡ c.loop.counter = omega arith in
    ap (λ (k : ℕ). slice_get texts k) there
    ∙ text_at c.args.self.now c.loop.rest.now c.in_ok-text.text.now c.in_ok-text.field-0-1.now c.loop.counter c.loop.invariant c.in_ok-text.ensures texts a
