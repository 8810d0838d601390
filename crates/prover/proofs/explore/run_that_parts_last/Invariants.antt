use Rattle.std.specs.Prelude.{IfSome}
use Rattle.semantics.specs.RunEnds.{IsFinishedRun}
use Rattle.prover.proofs.explore.run_that_parts_last.Given as goal

-- the best run so far ends well
abbrev pub invariant-loop-halving : goal.invariant-loop-halving
invariant-loop-halving l = IfSome l.best (λ run. IsFinishedRun l.program run.items)
