use Rattle.shrinking.proofs.LongTexts.{long_hangs_are_short}
use Rattle.shrinking.proofs.laws.long_hangs_are_short.Goals as goal

pub returns : goal.returns
returns c = long_hangs_are_short
