use Rattle.unroll.proofs.Staying.{numbers_stay}
use Rattle.unroll.proofs.laws.numbers_stay.Goals as goal

pub returns : goal.returns
returns c = numbers_stay
