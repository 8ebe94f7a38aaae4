use Rattle.board_journal.proofs.Steps.{admits}
use Rattle.live_board.proofs.board.seats.Goals as goal

pub reader-requires : goal.reader-requires
reader-requires g c = admits _ _ _
