use Rattle.shrinking.proofs.LongTexts.{short_hangs_are_long}
use Rattle.shrinking.proofs.laws.short_hangs_are_long.Goals as goal

pub returns : goal.returns
returns c = short_hangs_are_long
