use Rattle.session.proofs.FileLaws.{exported}
use Rattle.session.proofs.laws.exported_answer_is_printed.Goals as goal

pub returns : goal.returns
returns c = exported
