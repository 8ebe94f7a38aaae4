use Rattle.std.proofs.Common.{refl}
use Rattle.text_table.proofs.Spelled.{one}
use Rattle.text_table.proofs.laws.one_table.Goals as goal

pub returns-clause-again : goal.returns-clause-again
returns-clause-again c texts table = record { table = table; spelled = refl }

pub returns-clause-one : goal.returns-clause-one
returns-clause-one c = one
