use Rattle.std.proofs.Common.{List, ap, subst}
use Rattle.pool.specs.declared.why.Why.{Why}
use Rattle.pool.specs.Reasons.{IsSmallest}
use Rattle.pool.specs.States.{PoolWithHistory}
use Rattle.pool.proofs.keep.Pool.status.Goals as goal

pub returns-clause-why : goal.returns-clause-why
returns-clause-why c =
    subst (λ (rs : List Why). IsSmallest rs c.why.result) (ap (λ (k : PoolWithHistory). k.held.reasons) c.self.view_is) c.why.ensures
