use Rattle.std.proofs.Common.{subst, sym}
use Rattle.refutations.specs.Refutations.{AreDerived}
use Rattle.pool.proofs.assembly.refutation_by.Goals as goal

pub refutation_of-requires-clause-derived : goal.refutation_of-requires-clause-derived
refutation_of-requires-clause-derived c = subst (AreDerived c.args.formula.now) (sym c.in_ok-lines.ensures) c.requires.derived
