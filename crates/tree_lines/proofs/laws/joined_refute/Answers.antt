use Rattle.tree_lines.proofs.Added.{joined_refute}
use Rattle.tree_lines.proofs.laws.joined_refute.Goals as goal

pub returns : goal.returns
returns c = joined_refute
