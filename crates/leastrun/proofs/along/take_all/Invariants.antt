use Rattle.leastrun.specs.parts.Along.{IsReached}
use Rattle.leastrun.proofs.along.take_all.Given as goal

-- the steps so far are a run
abbrev pub invariant-loop-step : goal.invariant-loop-step
invariant-loop-step l = IsReached l.program l.steps.items l.state
