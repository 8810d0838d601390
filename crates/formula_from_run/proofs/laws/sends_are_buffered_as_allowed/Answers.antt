use Rattle.formula_from_run.proofs.Buffers as buffers
use Rattle.formula_from_run.proofs.laws.sends_are_buffered_as_allowed.Goals as goal

pub returns : goal.returns
returns c = buffers.sends_are_buffered_as_allowed
