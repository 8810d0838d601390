use Rattle.std.proofs.Common.{◌≡◌, map, take}
use Rattle.cubes.specs.Cubes.{match_variable}
use Rattle.cubes.proofs.splitting.match_variables.Given as goal

abbrev pub invariant-loop-number : goal.invariant-loop-number
invariant-loop-number l = l.variables.items ≡ map (match_variable l.table) (take l.number-index l.numbers)
