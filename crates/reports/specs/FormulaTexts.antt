-- The texts of the formula of a program's text.
use Rattle.std.specs.Prelude.{◌≡◌, ℕ, List}
use Rattle.callorder.specs.Programs.{MpiProgram}
use Rattle.callorder.specs.Resolving.{IsTextOf}
use Rattle.formula.specs.Numbering.{formula_of}
use Rattle.prooflog.specs.FormulaText.{formula_text}
use Rattle.exports.specs.Dimacs.{dimacs_text}
use Rattle.checker.specs.Verdicts.{HasFormula}

-- the text has a program, whose formula is within the limits, and this is that formula's text
pub record HasFormulaText (program text : List ℕ) : Type 0 where
  pub p : MpiProgram
  pub is_text : IsTextOf program p
  pub within : HasFormula p
  pub text_is : text ≡ formula_text (formula_of p)

-- the same, of the formula's text in the DIMACS format
pub record HasDimacsText (program text : List ℕ) : Type 0 where
  pub p : MpiProgram
  pub is_text : IsTextOf program p
  pub within : HasFormula p
  pub text_is : text ≡ dimacs_text p
