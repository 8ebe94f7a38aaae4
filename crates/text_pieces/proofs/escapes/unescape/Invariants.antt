use denote.Shadow.{shadow}
use denote.Text.{Utf8}
use Rattle.std.proofs.Common.{◌≡◌, ◌++◌, length, true}
use Rattle.std.specs.Prelude.{is_some, string_bytes}
use Rattle.std.specs.Option.{option_map}
use Rattle.text_pieces.specs.Escapes.{unescaped}
use Rattle.text_pieces.proofs.escapes.unescape.Given as goal

abbrev pub invariant-loop-piece : goal.invariant-loop-piece
invariant-loop-piece l = record {
  utf8 : shadow (Utf8 l.rest);
  spelled : option_map (λ t. string_bytes l.spelled ++ t) (unescaped l.rest) ≡ unescaped l.text;
  good : is_some (unescaped l.rest) ≡ true;
}

abbrev pub decreases-loop-piece : goal.decreases-loop-piece
decreases-loop-piece l = length l.rest
