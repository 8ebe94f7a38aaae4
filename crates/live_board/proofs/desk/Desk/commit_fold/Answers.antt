use Rattle.std.proofs.Common.{sym}
use Rattle.live_board.proofs.Desks.{commit_comes}
use Rattle.live_board.proofs.desk.Desk.commit_fold.Goals as goal

pub place_fold-requires : goal.place_fold-requires
place_fold-requires g c =
    commit_comes g.N.BoardName.rules g.N.BoardName.base c.args.pass.now.log c.args.self.now c.args.work c.set.result.now c.set.ensures.set c.set.ensures.standing c.if-not-meets.ensures.1 c.requires
    (sym c.in_default.ensures)
