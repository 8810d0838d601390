use Rattle.std.proofs.lemmas.Grind.{common_steps}
use Rattle.std.proofs.Common.{arith, ap, rules}
use Rattle.steal.specs.declared.rule.Hand.{Hand}
use Rattle.steal.proofs.Moves.{forks}
use Rattle.steal.proofs.deque.CubeDeque.make.Goals as goal

pub another-pass-requires : goal.another-pass-requires
another-pass-requires c = forks _ _ (omega (arith, ap (λ (v : Hand). v.parts) c.loop.invariant.knows, c.requires))

pub loop-preserved : goal.loop-preserved
loop-preserved c = grind (arith, common_steps)

pub invariant_of-seat : goal.invariant_of-seat
invariant_of-seat c = search rules

pub returns-clause-thieves : goal.returns-clause-thieves
returns-clause-thieves c = search rules

pub returns-clause-owner : goal.returns-clause-owner
returns-clause-owner c = search rules

pub invariant_of-push_reserved : goal.invariant_of-push_reserved
invariant_of-push_reserved c = search rules
