use Rattle.std.proofs.Common.{◌≡◌, take, length}
use Rattle.cubes.specs.Levels.{full_tree}
use Rattle.cubes.proofs.FullTrees.{inner_of, root}
use Rattle.cubes.proofs.levels.full_tree.Given as goal

abbrev pub invariant-loop-variable : goal.invariant-loop-variable
invariant-loop-variable l = record {
  state : l.tree ≡ record { variables = l.fn.most; nodes = full_tree (take l.variable-index l.variables) };
  on_the_last : l.first ≡ length (inner_of 0 (take l.variable-index l.variables) root);
}
