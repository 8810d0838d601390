use Rattle.std.proofs.Common.{IfSome, sym, subst}
use Rattle.refutations.specs.Refutations.{AreDerived}
use Rattle.finishing.proofs.checking.is_refuted.Goals as goal

pub is_closed-requires : goal.is_closed-requires
is_closed-requires c =
    let f = c.args.formula.now in
    let derived : AreDerived f c.in-Some.lines.items = subst (λ found. IfSome found (λ lines. AreDerived f lines.items)) c.in-Some.is c.in_ok-checked.ensures in
    subst (AreDerived f) (sym c.as_slice.ensures.value) derived
