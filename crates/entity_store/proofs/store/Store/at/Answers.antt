use Rattle.std.proofs.Common.{sym, ◌∙◌, ap, eqb}
use Rattle.std.specs.Prelude.{find}
use Rattle.std.specs.Option.{option_copied}
use Rattle.live_model.specs.Stores.{key}
use Rattle.entity_store.proofs.Tagging.{found, found_key}
use Rattle.entity_store.proofs.store.Store.at.Goals as goal

pub returns-in_default-clause-found : goal.returns-in_default-clause-found
returns-in_default-clause-found c =
    ap option_copied (sym c.in_default.is) ∙ c.get.ensures ∙ found c.args.wanted c.self.inside.table.map c.self.invariant.0 ∙ ap (λ s. find (λ e. eqb (key e) c.args.wanted) s.entities) c.self.view_is

pub returns-clause-found : goal.returns-clause-found
returns-clause-found c =
    ap option_copied (sym c.in-Some.is) ∙ c.get.ensures ∙ found c.args.wanted c.self.inside.table.map c.self.invariant.0 ∙ ap (λ s. find (λ e. eqb (key e) c.args.wanted) s.entities) c.self.view_is

pub returns-clause-same : goal.returns-clause-same
returns-clause-same c = found_key c.args.wanted c.in-Some.entity.now c.args.self.now.entities (returns-clause-found c)
