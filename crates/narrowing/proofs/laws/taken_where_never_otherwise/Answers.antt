use Rattle.narrowing.proofs.Never as never
use Rattle.narrowing.proofs.laws.taken_where_never_otherwise.Goals as goal

pub returns : goal.returns
returns c = never.taken_where_never_otherwise
