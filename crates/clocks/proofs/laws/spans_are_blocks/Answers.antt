use Rattle.clocks.proofs.Members as spans
use Rattle.clocks.proofs.laws.spans_are_blocks.Goals as goal

pub returns : goal.returns
returns c = spans.spans_are_blocks
