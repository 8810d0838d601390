use Rattle.std.proofs.Common.{◌≡◌, map, take}
use Rattle.std.specs.HashMap.{get}
use Rattle.std.specs.HashSet.{contains}
use Rattle.sealing.specs.parts.Sides.{partner_in, same_occurrence, same_wanted}
use Rattle.sealing.proofs.partners.partners_in.Given as goal

abbrev pub invariant-loop-occurrence : goal.invariant-loop-occurrence
invariant-loop-occurrence l =
    l.partners.items ≡ map (partner_in (contains same_wanted l.asked) (get same_occurrence l.places)) (take l.occurrence-index l.occurrences)
