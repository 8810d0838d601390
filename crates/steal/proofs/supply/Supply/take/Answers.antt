use Rattle.std.proofs.lemmas.Grind.{common_steps}
use Rattle.std.proofs.Common.{refl, arith}
use Rattle.steal.specs.Seats.{IsSameThief}
use Rattle.steal.proofs.Places.{AllZip-refl}
use Rattle.steal.proofs.supply.Supply.take.Goals as goal

pub returns-in-Some-clause-same : goal.returns-in-Some-clause-same
returns-in-Some-clause-same c =
    (record { owner = c.in-Some.ensures.same.0; thieves = AllZip-refl IsSameThief (λ t. refl) c.args.self.now.thieves.items }, c.in-Some.ensures.same.1)

pub returns-in-Some-clause-cube : goal.returns-in-Some-clause-cube
returns-in-Some-clause-cube c = grind (arith, common_steps)
