use Rattle.session.proofs.FileLaws.{trimmed}
use Rattle.session.proofs.laws.trimmed_refutation_is_written.Goals as goal

pub returns : goal.returns
returns c = trimmed
