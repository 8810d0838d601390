use Rattle.std.proofs.Common.{arith, ap, length}
use Rattle.clauses.specs.Clauses.{Conjunction}
use Rattle.callorder.specs.Programs.{MpiProgram}
use Rattle.formula.specs.Numbering.{meanings}
use Rattle.cubes.proofs.splitting.count_variables.Goals as goal

pub returns-clause-most : goal.returns-clause-most
returns-clause-most c =
    omega (
      arith,
      c.variables.ensures,
      ap (λ (f : Conjunction). f.variables) c.formula.ensures.same,
      ap (λ (f : Conjunction). f.variables) c.formula.ensures.is,
      ap (λ (p : MpiProgram). length (meanings p)) c.requires,
      c.count-count.ensures.same,
      c.count-count.ensures.few,
    )
