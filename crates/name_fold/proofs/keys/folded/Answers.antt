use Rattle.std.proofs.Common.{encode_utf8_all, sym, ◌∙◌, ap}
use Rattle.std.specs.Prelude.{chars}
use Rattle.std.proofs.lemmas.Str.{chars_from_encodes}
use Rattle.caseless.specs.Caseless.{default_case_fold}
use Rattle.unicode_normalization.specs.Forms.{nfd}
use Rattle.name_fold.specs.Keys.{key}
use Rattle.name_fold.proofs.keys.folded.Goals as goal

pub returns : goal.returns
unfolding key
returns c =
    let once = chars_from_encodes (nfd (chars c.args.name.now)) c.as_str.result.now c.as_str.utf8 (sym (c.as_str.ensures.value ∙ c.in_ok-decomposed.ensures)) in
    let folded = chars_from_encodes (default_case_fold (chars c.as_str.result.now)) c.as_str-2.result.now c.as_str-2.utf8 (sym (c.as_str-2.ensures.value ∙ c.in_ok-folded.ensures)) in
    c.from_string.ensures ∙ c.in_ok-to_nfd.ensures ∙ ap (λ cs. encode_utf8_all (nfd cs)) (sym folded) ∙ ap (λ cs. encode_utf8_all (nfd (default_case_fold cs))) (sym once)
