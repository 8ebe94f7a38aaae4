use Rattle.live_model.proofs.CanonicalTexts.{text_back}
use Rattle.opl_writer.proofs.laws.written_lines_read_back.Goals as goal

pub returns : goal.returns
returns c = text_back
