use Rattle.formula.proofs.Written as written
use Rattle.formula.proofs.laws.order_is_in_normal_form.Goals as goal

pub returns : goal.returns
returns c = written.order_is_in_normal_form
