use Rattle.std.proofs.Common.{sym, ap, length, arith}
use Rattle.formula_tables.proofs.Rows.{past_is_last}
use Rattle.formula_tables.proofs.calls.is_last.Goals as goal

pub returns : goal.returns
returns c = sym (past_is_last c.args.program.now c.args.call (omega (arith, c.if-call-calls.false, ap length c.calls.ensures.value)))
