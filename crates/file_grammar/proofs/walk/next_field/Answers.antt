use Rattle.std.proofs.Common.{◌∙◌, ap, subst}
use Rattle.file_grammar.specs.Walks.{IsTurn, break_from}
use Rattle.file_grammar.proofs.Fuel.{turn_read}
use Rattle.file_grammar.proofs.Next.{comes_next, left_none}
use Rattle.file_grammar.proofs.walk.next_field.Goals as goal

pub returns-in-Ok-clause-ended : goal.returns-in-Ok-clause-ended
returns-in-Ok-clause-ended c =
    turn_read c.args.part c.args.last c.args.cursor.now c.read_field.result c.read_field.ensures.turn ∙ ap (break_from c.args.part c.args.cursor.now) c.in-Ok.is

pub returns-in-Err-clause-broken : goal.returns-in-Err-clause-broken
returns-in-Err-clause-broken c =
    rw c.from.ensures (turn_read c.args.part c.args.last c.args.cursor.now c.read_field.result c.read_field.ensures.turn ∙ ap (break_from c.args.part c.args.cursor.now) c.in-Err.is)

pub returns-in-Ok-clause-next : goal.returns-in-Ok-clause-next
returns-in-Ok-clause-next c fields e =
    comes_next c.args.part c.args.last c.args.cursor.now c.read_field.new.cursor c.read_field.result c.in-Ok.found c.read_field.ensures.turn c.read_field.ensures.moved c.in-Ok.is fields e

pub returns-in-Err-clause-none : goal.returns-in-Err-clause-none
returns-in-Err-clause-none c fields e =
    left_none c.args.part c.args.last c.args.cursor.now c.in-Err.b fields (subst (IsTurn c.args.part c.args.last c.args.cursor.now) c.in-Err.is c.read_field.ensures.turn) e
