use Rattle.text_pieces.proofs.NumberLaw.{id_of-printed}
use Rattle.text_pieces.proofs.laws.ids_read_back.Goals as goal

pub returns : goal.returns
returns c = id_of-printed
