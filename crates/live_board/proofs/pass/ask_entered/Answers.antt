use Rattle.board_journal.proofs.Steps.{looks}
use Rattle.live_board.proofs.pass.ask_entered.Goals as goal

pub enter_as-requires : goal.enter_as-requires
enter_as-requires g c = looks _ _ _ _ _
