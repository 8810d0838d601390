use Rattle.std.proofs.Common.{arith}
use Rattle.formula.specs.Numbering.{meanings, is_same_meaning}
use Rattle.formula_tables.proofs.VariableNumbers.{position_most}
use Rattle.formula_tables.proofs.variables.Variables.place_of.Goals as goal

pub returns-clause-few : goal.returns-clause-few
returns-clause-few c =
    omega (arith, c.place_in_all.ensures, position_most (is_same_meaning c.args.meaning.now) (meanings c.args.self.now), c.count-count.ensures.same, c.count-count.ensures.few)
