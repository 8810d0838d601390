use Rattle.session.proofs.CheckLaws.{not_blamed}
use Rattle.session.proofs.laws.read_files_are_not_blamed.Goals as goal

pub returns : goal.returns
returns c = not_blamed
