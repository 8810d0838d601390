use Rattle.std.proofs.Common.{◌≡◌, [], ◌∷◌, drop, reverse}
use Rattle.std.specs.List.{list_all}
use Rattle.prooflog.specs.Refutations.{depths, is_depth}
use Rattle.prooflog.proofs.refutation.are_shallow.Given as goal

-- the roots of what is left wait, the next one last
abbrev pub invariant-loop-node : goal.invariant-loop-node
invariant-loop-node l = list_all is_depth (depths (reverse l.waiting.items) (drop l.node-index l.nodes)) ≡ list_all is_depth (depths (0 ∷ []) l.nodes)
