use Rattle.text_pieces.proofs.EscapeLaw.{text_of-escaped}
use Rattle.text_pieces.proofs.laws.escaped_texts_read_back.Goals as goal

pub returns : goal.returns
returns c = text_of-escaped
