use Rattle.std.proofs.Common.{◌∙◌, ap, subst, sym}
use Rattle.callorder.specs.Resolving.{IsTextOf}
use Rattle.checker.specs.Verdicts.{HasFormula}
use Rattle.formula.specs.Numbering.{formula_of}
use Rattle.prover.proofs.proving.search.Goals as goal

pub answer_over-requires-clause-formula : goal.answer_over-requires-clause-formula
answer_over-requires-clause-formula g c κs within = c.in-Ok.ensures.formula ∙ ap formula_of (sym c.in-Ok.ensures.of)

pub answer_over-requires-clause-within : goal.answer_over-requires-clause-within
answer_over-requires-clause-within g c κs within = subst HasFormula (sym c.in-Ok.ensures.of) c.in-Ok.ensures.within

pub returns-in-Ok-clause-answer : goal.returns-in-Ok-clause-answer
returns-in-Ok-clause-answer g c = λ text is. c.answer_over.ensures text (subst (IsTextOf text) (sym c.in-Ok.ensures.of) is)
