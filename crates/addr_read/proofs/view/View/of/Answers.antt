use Rattle.std.proofs.Common.{◌∙◌, ap, sym, subst}
use Rattle.std.specs.Prelude.{IsUtf8}
use Rattle.name_fold.specs.Keys.{key}
use Rattle.addr_read.proofs.AddressRead.{key_of, texts_of}
use Rattle.addr_read.proofs.view.View.of.Goals as goal

pub text_at-requires-clause-utf8 : goal.text_at-requires-clause-utf8
text_at-requires-clause-utf8 c =
    let s = c.requires.sound in
    subst IsUtf8 (sym s.holds.key) (texts_of s.address s.sound).key

pub text_at-requires-2-clause-utf8 : goal.text_at-requires-2-clause-utf8
text_at-requires-2-clause-utf8 c =
    let s = c.requires.sound in
    subst IsUtf8 (sym s.holds.lang) (texts_of s.address s.sound).lang

pub text_at-requires-3-clause-utf8 : goal.text_at-requires-3-clause-utf8
text_at-requires-3-clause-utf8 c =
    let s = c.requires.sound in
    subst IsUtf8 (sym s.holds.name) (texts_of s.address s.sound).name

pub text_at-requires-4-clause-utf8 : goal.text_at-requires-4-clause-utf8
text_at-requires-4-clause-utf8 c =
    let s = c.requires.sound in
    subst IsUtf8 (sym s.holds.number) (texts_of s.address s.sound).number

pub invariant_of-result : goal.invariant_of-result
invariant_of-result c =
    let s = c.requires.sound in
    c.text_at.ensures ∙ s.holds.key ∙ key_of s.address s.sound ∙ ap key (sym (c.text_at-3.ensures ∙ s.holds.name))
