use Rattle.std.proofs.lemmas.Grind.{common_steps}
use Rattle.std.proofs.Common.{length, ap, arith}
use Rattle.pages.proofs.Joined.{length-paged}
use Rattle.pages.proofs.log.Log.len.Goals as goal

pub returns-clause-same : goal.returns-clause-same
returns-clause-same c =
    let log = c.self.inside in
    omega (arith, length-paged 256 log.pages.items log.last.items c.self.invariant.full, ap length c.self.view_is, log.pages.ok, log.last.ok)

pub returns-clause-small : goal.returns-clause-small
returns-clause-small c = grind (arith, common_steps)
