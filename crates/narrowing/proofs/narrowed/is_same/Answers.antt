use Rattle.std.proofs.Common.{sym, ◌∙◌}
use Rattle.narrowing.proofs.SameCalls.{equal_if_same}
use Rattle.narrowing.proofs.narrowed.is_same.Goals as goal

pub returns : goal.returns
returns c =
    let same = equal_if_same c.args.call c.args.other in
    (λ yes. same.0 (sym c.eq.ensures ∙ yes), λ is. c.eq.ensures ∙ same.1 is)
