use Rattle.std.proofs.Common.{subst}
use Rattle.shrinking.specs.Shrinking.{CanHangLong}
use Rattle.shrinking.proofs.Kept.{of_some}
use Rattle.shrinking.proofs.halving.shrunk_long.Goals as goal

pub returns-clause-given : goal.returns-clause-given
returns-clause-given c =
    subst CanHangLong c.in_ok-whole.ensures (of_some c.in_ok-found.found c.in-Some.best (CanHangLong c.in_ok-whole.field-0.text.items) c.in-Some.is c.in_ok-found.ensures.hangs)
