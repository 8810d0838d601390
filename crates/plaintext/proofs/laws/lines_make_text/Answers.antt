use Rattle.plaintext.proofs.Texts.{joined-lines}
use Rattle.plaintext.proofs.laws.lines_make_text.Goals as goal

pub returns : goal.returns
returns c = joined-lines
