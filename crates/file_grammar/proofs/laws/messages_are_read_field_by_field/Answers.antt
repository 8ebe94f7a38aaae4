use Rattle.file_grammar.specs.Tables.{next_keys, may_end}
use Rattle.file_grammar.proofs.Fuel.{turn, turn_break}
use Rattle.file_grammar.proofs.Inside.{field_inside}
use Rattle.file_grammar.proofs.Lists.{list_turn}
use Rattle.file_grammar.proofs.laws.messages_are_read_field_by_field.Goals as goal

pub returns : goal.returns
returns c = record {
  turn = turn;
  broken = turn_break;
  forward = λ part last w f window e. field_inside w (next_keys part last) (may_end part last) f window e;
  numbers = list_turn;
}
