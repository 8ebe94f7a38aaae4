use Rattle.std.proofs.Common.{◌≡◌, ◌+◌, ℕ, Bool, List, Option, sym, ap, subst, ◌∙◌, arith}
use Rattle.std.specs.Prelude.{slice_range}
use Rattle.obf_wire.specs.declared.file.FileBreak.{FileBreak}
use Rattle.obf_wire.specs.declared.file.FileKind.TheVariants.{BadText}
use Rattle.obf_wire.specs.Fields.{IsWindow}
use Rattle.obf_wire.specs.Windows.{range_of}
use Rattle.file_grammar.specs.Facts.{earlier, failing, fact}
use Rattle.file_grammar.specs.Walks.{Standing}
use Rattle.boxed_exact.specs.Fields.{is_text_behind}
use Rattle.boxed_exact.proofs.TextWalk.{TextsLeft, texts_begin, texts_on, texts_all}
use Rattle.boxed_exact.proofs.texts.check_texts.Goals as goal

pub loop-field-init : goal.loop-field-init
loop-field-init c = record {
  texts = λ fields e. texts_begin fields c.args.first.now (range_of c.args.window) c.new-walk.result c.new-walk.ensures e;
  window = subst (λ (s : Standing). IsWindow s.window) (sym c.new-walk.ensures) (record { ordered = c.args.window.ordered; within = c.args.window.within });
  same = ap (λ (s : Standing). s.window.bytes) c.new-walk.ensures;
  few = omega arith;
}

pub loop-field-preserved : goal.loop-field-preserved
loop-field-preserved c =
    let s : Standing = c.loop-field.walk in
    let f = c.in-Some.field in
    let asked : c.ask.new.self ≡ earlier c.loop-field.first (failing (fact f.at BadText (is_text_behind c.loop-field.before.now (slice_range c.all-bytes.result.now f.from f.to)))) =
    c.ask.ensures ∙ ap (λ (holds : Bool). earlier c.loop-field.first (failing (fact f.at BadText holds))) c.is_text.ensures in
    record {
      texts = λ fields e.
          let t = texts_on fields c.args.first.now c.loop-field.first c.loop-field.count c.loop-field.before.now s c.next.new.self f (c.loop-field.invariant.texts fields e) c.in-Some.ensures.fields in
          let u = subst (λ (bytes : List ℕ). TextsLeft fields c.args.first.now (earlier c.loop-field.first (failing (fact f.at BadText (is_text_behind c.loop-field.before.now (slice_range bytes f.from f.to))))) (c.loop-field.count + 1) (slice_range bytes f.from f.to) c.next.new.self) (c.loop-field.invariant.same ∙ sym c.all-bytes.ensures) t in
          subst (λ (now : Option FileBreak). TextsLeft fields c.args.first.now now (c.loop-field.count + 1) (slice_range c.all-bytes.result.now f.from f.to) c.next.new.self) (sym asked) u;
      window = c.in-Some.ensures.window;
      same = c.in-Some.ensures.same.0 ∙ c.loop-field.invariant.same;
      few = omega (arith, c.loop-field.invariant.few, c.in-Some.ensures.inside.0.place, c.in-Some.ensures.inside.0.starts, c.in-Some.ensures.inside.0.ordered, c.in-Some.ensures.inside.1);
    }

pub returns-clause-asked : goal.returns-clause-asked
returns-clause-asked c fields e =
    (texts_all fields c.args.first.now c.loop-field.first c.loop-field.count c.loop-field.before.now c.loop-field.walk (c.loop-field.invariant.texts fields e) c.in_default.ensures.fields).0

pub returns-clause-counted : goal.returns-clause-counted
returns-clause-counted c fields e =
    (texts_all fields c.args.first.now c.loop-field.first c.loop-field.count c.loop-field.before.now c.loop-field.walk (c.loop-field.invariant.texts fields e) c.in_default.ensures.fields).1
