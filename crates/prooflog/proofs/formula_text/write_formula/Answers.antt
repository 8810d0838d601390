use Rattle.std.proofs.Common.{rules}
use Rattle.prooflog.proofs.formula_text.write_formula.Goals as goal

pub overflow_cast-len : goal.overflow_cast-len
overflow_cast-len c = search rules

pub returns : goal.returns
returns c = search rules
