use Rattle.std.proofs.Common.{◌≡◌}
use Rattle.steal.specs.Seats.{stolen, IsSameThief}
use Rattle.steal.proofs.supply.stolen_soon.Given as goal

abbrev pub invariant-loop : goal.invariant-loop
invariant-loop l = record { same : IsSameThief l.initial.thief l.thief; none : stolen l.thief ≡ stolen l.initial.thief }
