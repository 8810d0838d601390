use Rattle.std.proofs.Common.{refl}
use Rattle.calltext.specs.parts.Verbs.{verbs}
use Rattle.calltext.proofs.verb.all.Goals as goal

pub returns : goal.returns
unfolding verbs
returns c = refl
