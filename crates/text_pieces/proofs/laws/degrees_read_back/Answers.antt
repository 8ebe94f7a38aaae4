use Rattle.text_pieces.proofs.DegreesLaw.{degrees_of-written}
use Rattle.text_pieces.proofs.laws.degrees_read_back.Goals as goal

pub returns : goal.returns
returns c = degrees_of-written
