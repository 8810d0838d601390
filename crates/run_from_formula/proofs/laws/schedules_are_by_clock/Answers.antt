use Rattle.run_from_formula.proofs.Sorted.{in_order_by}
use Rattle.run_from_formula.proofs.laws.schedules_are_by_clock.Goals as goal

pub returns : goal.returns
returns c = in_order_by
