use Rattle.text_pieces.proofs.NumberLaw.{number_of-printed}
use Rattle.text_pieces.proofs.laws.numbers_read_back.Goals as goal

pub returns : goal.returns
returns c = number_of-printed
