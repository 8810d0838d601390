use Rattle.std.proofs.Common.{ℕ, Some, arith, ap}
use Rattle.std.proofs.lemmas.Grind.{common_steps}
use Rattle.calltext.proofs.words.communicator_of.Goals as goal

pub returns-in_ok-number_of-in-len2-clause-some : goal.returns-in_ok-number_of-in-len2-clause-some
returns-in_ok-number_of-in-len2-clause-some c =
    let n = c.in_ok-number_of-in-len2.ensures.some in
    (Some n.0, grind (arith, common_steps, n.1), ap (λ (x : ℕ). Some x) n.2)

pub returns-in_err-number_of-in-len2-clause-none : goal.returns-in_err-number_of-in-len2-clause-none
returns-in_err-number_of-in-len2-clause-none c = grind (arith, common_steps)

pub returns-in-empty-clause-some : goal.returns-in-empty-clause-some
returns-in-empty-clause-some c = grind (arith, common_steps)

pub returns-in_default-clause-none : goal.returns-in_default-clause-none
returns-in_default-clause-none c = grind (arith, common_steps)

pub returns-in_default-2-clause-none : goal.returns-in_default-2-clause-none
returns-in_default-2-clause-none c = grind (arith, common_steps)

pub returns-in_default-3-clause-none : goal.returns-in_default-3-clause-none
returns-in_default-3-clause-none c = grind (arith, common_steps)
