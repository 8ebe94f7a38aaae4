use Rattle.std.proofs.Common.{Option, subst}
use Rattle.obf_wire.specs.declared.field.Field.{Field}
use Rattle.file_grammar.specs.Walks.{ComesNext}
use Rattle.file_grammar.proofs.fields.FieldWalk.next.Goals as goal

pub returns-in-Ok-Some-clause-fields : goal.returns-in-Ok-Some-clause-fields
returns-in-Ok-Some-clause-fields c =
    rw (← c.self.view_is)
    (subst (λ (x : Option Field). ComesNext c.self.inside.part c.self.inside.last c.self.inside.cursor c.next_field.new.cursor x) c.in-Ok-Some.field-0-is c.in-Ok-Some.ensures.next)

pub returns-in-Ok-None-clause-fields : goal.returns-in-Ok-None-clause-fields
returns-in-Ok-None-clause-fields c =
    rw (← c.self.view_is)
    (subst (λ (x : Option Field). ComesNext c.self.inside.part c.self.inside.last c.self.inside.cursor c.next_field.new.cursor x) c.in-Ok-None.field-0-is c.in-Ok-None.ensures.next)
