use Rattle.std.proofs.Common.{ℕ, Some, ap}
use Rattle.calltext.proofs.words.number_or_star.Goals as goal

pub returns-clause-some : goal.returns-clause-some
returns-clause-some c =
    let n = c.in_ok-number_of.ensures.some in
    (Some n.0, n.1, ap (λ (x : ℕ). Some x) n.2)
