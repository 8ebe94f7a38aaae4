use Rattle.std.proofs.Common.{rules}
use Rattle.live_board.proofs.Desks.{folds_agree}
use Rattle.live_board.proofs.desk.Desk.place_fold.Goals as goal

pub invariant_of-self : goal.invariant_of-self
invariant_of-self g c = (
  search rules,
  search rules,
  search rules,
  folds_agree g.N.BoardName.rules g.N.BoardName.base c.self.inside.front c.in-Some.after c.args.work c.self.inside.total.total c.self.inside.store.entities c.self.inside.index.map c.self.invariant.3
      c.in-Some.ensures.after,
  c.self.invariant.4,
  c.self.invariant.5,
)
