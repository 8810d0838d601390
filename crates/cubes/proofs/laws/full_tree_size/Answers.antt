use Rattle.cubes.proofs.FullTrees.{full_size}
use Rattle.cubes.proofs.laws.full_tree_size.Goals as goal

pub returns : goal.returns
returns c = full_size
