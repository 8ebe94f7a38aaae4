use Rattle.std.proofs.Common.{◌∙◌, ap, ◌++◌, rules}
use Rattle.std.specs.Prelude.{encode_utf8, string_bytes}
use Rattle.text_pieces.specs.Escapes.{character_of}
use Rattle.text_pieces.proofs.EscapeSteps.{IsPair, spelled_step, good_step}
use Rattle.text_pieces.proofs.escapes.unescape.Goals as goal

pub loop-piece-preserved : goal.loop-piece-preserved
loop-piece-preserved c =
    let pair : IsPair c.loop-piece.rest.now c.in-Some.piece.now c.in-Some-parted_text.code.now c.in-Some-parted_text.after.now c.in-Some-character_spelled.character = record {
      behind = c.in-Some.behind.now;
      first = c.in-Some.ensures.parts.0;
      second = c.in-Some-parted_text.ensures.parts.0;
      piece_is = c.in-Some.ensures.parts.1;
      behind_is = c.in-Some.ensures.parts.2;
      code_is = c.in-Some-parted_text.ensures.parts.1;
      rest_is = c.in-Some-parted_text.ensures.parts.2;
      character = c.in-Some-character_spelled.ensures ∙ ap character_of c.as_bytes.ensures.value;
    } in
    record {
      utf8 = search rules;
      spelled = spelled_step (string_bytes c.loop-piece.spelled) (string_bytes c.push.new.self) _ _ _ _ _ _ pair (c.in_ok-push.ensures.bytes ∙ ap (λ t. t ++ encode_utf8 c.in-Some-character_spelled.character) c.in_ok-push_str.ensures.bytes) c.loop-piece.invariant.spelled;
      good = good_step _ _ _ _ _ pair c.loop-piece.invariant.good;
    }
