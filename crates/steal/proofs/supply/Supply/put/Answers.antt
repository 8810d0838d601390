use Rattle.std.proofs.Common.{refl, ap, ◌++◌, List, ℕ, rules}
use Rattle.steal.specs.Seats.{stolen_by, IsSameThief}
use Rattle.steal.proofs.Places.{AllZip-refl}
use Rattle.steal.proofs.supply.Supply.put.Goals as goal

pub returns-clause-same : goal.returns-clause-same
returns-clause-same c = (
  record { owner = c.push.ensures.same.0; thieves = AllZip-refl IsSameThief (λ t. refl) c.args.self.now.thieves.items },
  ap (λ (l : List ℕ). l ++ stolen_by c.args.self.now.thieves.items) c.push.ensures.same.1,
)

pub returns-clause-cube : goal.returns-clause-cube
returns-clause-cube c = search rules
