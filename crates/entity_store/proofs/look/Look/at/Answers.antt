use Rattle.std.proofs.Common.{sym, ◌∙◌, ap}
use Rattle.std.specs.Option.{option_copied}
use Rattle.entity_store.proofs.Tagging.{found_key}
use Rattle.entity_store.proofs.look.Look.at.Goals as goal

pub returns-clause-same : goal.returns-clause-same
returns-clause-same c = found_key c.args.place c.in-Some.entity.now c.args.self.now (ap option_copied (sym c.in-Some.is) ∙ c.found_at.ensures)
