use Rattle.std.proofs.Common.{◌≡◌, ◌-◌, ◌≤◌}
use Rattle.cubes.proofs.LevelSteps.{split_so_far}
use Rattle.cubes.proofs.levels.split_level.Given as goal

abbrev pub invariant-loop-leaf : goal.invariant-loop-leaf
invariant-loop-leaf l = record {
  from : l.first ≤ l.leaf;
  state : l.tree ≡ record l.initial.tree { nodes = split_so_far l.first l.variable l.initial.tree.nodes (l.leaf - l.first) };
}
