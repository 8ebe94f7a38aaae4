use Rattle.std.proofs.Common.{◌≡◌, ◌+◌, ℕ, List, sym, ap, subst, ◌∙◌}
use Rattle.std.specs.Prelude.{slice_range}
use Rattle.obf_wire.specs.Fields.{IsWindow}
use Rattle.obf_wire.specs.Windows.{range_of}
use Rattle.file_grammar.specs.Sections.{text_of, texts_in}
use Rattle.file_grammar.specs.Walks.{Standing}
use Rattle.boxed_exact.proofs.BlockTextWalk.{no_text, text_later, text_now, texts_begin}
use Rattle.boxed_exact.proofs.block_texts.text_at.Goals as goal

pub loop-field-init : goal.loop-field-init
loop-field-init c = record {
  texts = λ fields e. texts_begin fields c.args.index (range_of c.args.window) c.new-walk.result c.new-walk.ensures e;
  window = subst (λ (s : Standing). IsWindow s.window) (sym c.new-walk.ensures) (record { ordered = c.args.window.ordered; within = c.args.window.within });
  same = ap (λ (s : Standing). s.window.bytes) c.new-walk.ensures;
}

pub returns-then-left-eq0 : goal.returns-then-left-eq0
returns-then-left-eq0 c fields e =
    let f = c.in-Some.field in
    let t = text_now fields c.args.index c.loop-field.left c.loop-field.walk c.next.new.self f c.if-left-eq0.true (c.loop-field.invariant.texts fields e) c.in-Some.ensures.fields in
    subst (λ (bytes : List ℕ). slice_range bytes f.from f.to ≡ text_of (texts_in fields) (c.args.index + 1)) (c.loop-field.invariant.same ∙ sym c.all-bytes.ensures) t

pub loop-field-preserved : goal.loop-field-preserved
loop-field-preserved c = record {
  texts = λ fields e. text_later fields c.args.index c.loop-field.left c.loop-field.walk c.next.new.self c.in-Some.field c.if-left-eq0.false (c.loop-field.invariant.texts fields e) c.in-Some.ensures.fields;
  window = c.in-Some.ensures.window;
  same = c.in-Some.ensures.same.0 ∙ c.loop-field.invariant.same;
}

pub returns : goal.returns
returns c fields e = no_text fields c.args.index c.loop-field.left c.loop-field.walk (c.loop-field.invariant.texts fields e) c.in_default.ensures.fields
