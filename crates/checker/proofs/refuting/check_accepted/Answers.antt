use Rattle.std.proofs.Common.{◌≡◌, ◌⊎◌, refl, rules, sym, subst}
use Rattle.refutations.specs.Refutations.{AreDerived}
use Rattle.checker.specs.declared.reason.Reason.{Reason}
use Rattle.checker.specs.declared.reason.Reason.TheVariants as reasons
use Rattle.checker.specs.Verdicts.{IsUnaccepted}
use Rattle.checker.proofs.Reasons.{accepts_so, why_tree, why_unneeded}
use Rattle.checker.proofs.refuting.check_accepted.Goals as goal

pub returns-in-Ok-check_tree-clause-accepted : goal.returns-in-Ok-check_tree-clause-accepted
returns-in-Ok-check_tree-clause-accepted g c =
    let derived : AreDerived c.args.formula.now c.lines-lines.result.now = search rules in
    accepts_so c.check_needed.result c.args.formula.now c.args.refutation.now c.lines-lines.result.now c.tree-tree.result.now c.lines-lines.ensures.same c.tree-tree.ensures.same derived (c.in-Ok-check_tree.ensures.accepted refl)

pub returns-in-Ok-check_tree-clause-reason : goal.returns-in-Ok-check_tree-clause-reason
returns-in-Ok-check_tree-clause-reason g c =
    let derived : AreDerived c.args.formula.now c.lines-lines.result.now = search rules in
    why_unneeded c.check_needed.result c.args.formula.now c.args.refutation.now c.lines-lines.result.now c.tree-tree.result.now c.lines-lines.ensures.same c.tree-tree.ensures.same derived (c.in-Ok-check_tree.ensures.accepted refl) c.check_needed.ensures.reason

pub returns-in-Err-clause-reason : goal.returns-in-Err-clause-reason
returns-in-Err-clause-reason g c =
    let derived : AreDerived c.args.formula.now c.lines-lines.result.now = search rules in
    subst (λ (r : Reason). (r ≡ reasons.Memory) ⊎ IsUnaccepted r c.args.formula.now c.args.refutation.now) (sym c.from.ensures)
    (why_tree c.args.formula.now c.args.refutation.now c.lines-lines.result.now c.tree-tree.result.now c.in-Err.fault c.lines-lines.ensures.same c.tree-tree.ensures.same derived (c.in-Err.ensures.fault c.in-Err.fault refl))
