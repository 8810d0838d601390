use Rattle.std.proofs.Common.{ℕ, Option, Vec, refl}
use Rattle.std.specs.Global.{Global}
use Rattle.phases.proofs.Traffic.{are_numbers, ok_more}
use Rattle.phases.proofs.leaving.numbers_of.Goals as goal

pub returns : goal.returns
returns c = ok_more _ _ _ (λ (numbers : Vec (Option ℕ) Global) n. are_numbers _ (λ a b. refl) c.args.addresses.items numbers.items n) c.number.ensures
