use Rattle.calltext.proofs.Exact as exact
use Rattle.calltext.proofs.laws.same_text_within.Goals as goal

pub returns : goal.returns
returns c = exact.same_text_within
