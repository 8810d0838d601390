use Rattle.session.proofs.CheckLaws.{encoded}
use Rattle.session.proofs.laws.encoded_formula_is_printed.Goals as goal

pub returns : goal.returns
returns c = encoded
