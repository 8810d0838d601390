use Rattle.std.proofs.Common.{◌≡◌}
use Rattle.std.specs.List.{AllZip}
use Rattle.steal.specs.Seats.{stolen_by, IsSameThief}
use Rattle.steal.proofs.supply.stolen_round.Given as goal

abbrev pub invariant-loop-step : goal.invariant-loop-step
invariant-loop-step l = record { same : AllZip IsSameThief l.initial.thieves l.thieves; none : stolen_by l.thieves ≡ stolen_by l.initial.thieves }
