use Rattle.std.proofs.lemmas.Grind.{common_steps}
use Rattle.std.proofs.Common.{arith}
use Rattle.calltext.proofs.words.policy_of.Goals as goal

pub returns-then-is_word-2-clause-some : goal.returns-then-is_word-2-clause-some
returns-then-is_word-2-clause-some c = grind (arith, common_steps)

pub returns-then-is_word-3-clause-some : goal.returns-then-is_word-3-clause-some
returns-then-is_word-3-clause-some c = grind (arith, common_steps)

pub returns-then-is_word-4-clause-some : goal.returns-then-is_word-4-clause-some
returns-then-is_word-4-clause-some c = grind (arith, common_steps)

pub returns-else-is_word-4-clause-none : goal.returns-else-is_word-4-clause-none
returns-else-is_word-4-clause-none c = grind (arith, common_steps)

pub returns-in_default-clause-none : goal.returns-in_default-clause-none
returns-in_default-clause-none c = grind (arith, common_steps)

pub returns-in_default-2-clause-none : goal.returns-in_default-2-clause-none
returns-in_default-2-clause-none c = grind (arith, common_steps)

pub returns-in_default-3-clause-none : goal.returns-in_default-3-clause-none
returns-in_default-3-clause-none c = grind (arith, common_steps)
