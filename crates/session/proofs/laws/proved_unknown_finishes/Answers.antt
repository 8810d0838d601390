use Rattle.session.proofs.SearchLaws.{unknown_finishes}
use Rattle.session.proofs.laws.proved_unknown_finishes.Goals as goal

pub returns : goal.returns
returns c = unknown_finishes
