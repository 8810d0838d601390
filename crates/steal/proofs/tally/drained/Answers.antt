use Rattle.std.proofs.lemmas.Grind.{common_steps}
use Rattle.std.proofs.Common.{◌≡◌, ap, subst, count_by, arith}
use Rattle.steal.specs.declared.rule.Hand.{Hand}
use Rattle.steal.proofs.Moves.{drains, finds}
use Rattle.steal.proofs.tally.drained.Goals as goal

pub pop_as-requires-clause-fifo : goal.pop_as-requires-clause-fifo
pop_as-requires-clause-fifo c = λ _. drains _ _ (ap (λ (v : Hand). v.parts) c.loop-cube.invariant.knows)

pub pop_as-requires-clause-empty : goal.pop_as-requires-clause-empty
pop_as-requires-clause-empty c = finds _ _ (ap (λ (v : Hand). v.parts) c.loop-cube.invariant.knows)

pub returns : goal.returns
returns c p = subst (λ (v : Hand). count_by p v.pushed ≡ count_by p v.taken) c.loop-cube.invariant.knows (c.in_default.ensures.rule.1 p)

pub loop-cube-preserved : goal.loop-cube-preserved
loop-cube-preserved c = grind (arith, common_steps)
