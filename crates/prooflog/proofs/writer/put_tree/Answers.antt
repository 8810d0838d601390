use Rattle.std.proofs.Common.{◌++◌, map, ◌∙◌}
use Rattle.std.specs.List.{flat_map}
use Rattle.prooflog.specs.Refutations.{item_line, a_node}
use Rattle.prooflog.proofs.Writings.{tree_written}
use Rattle.prooflog.proofs.writer.put_tree.Goals as goal

pub returns : goal.returns
returns c =
    c.in_ok-put_nodes.ensures ∙ (λ i. c.in_ok-extend_from_slice.ensures.items i ++ flat_map item_line (map a_node (c.nodes.ensures.same i)))
    ∙ tree_written c.args.out.now.items c.args.tree.now
