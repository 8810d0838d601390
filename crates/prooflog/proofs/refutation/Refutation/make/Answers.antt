use Rattle.std.proofs.Common.{◌≡◌, ◌≤◌, List, [], ◌∷◌, IsTrue, length, arith, ap, sym, ◌∙◌}
use Rattle.std.specs.List.{list_all}
use Rattle.refutations.specs.declared.tree.Node.{Node}
use Rattle.prooflog.specs.Refutations.{is_line_in_range, is_depth, depths}
use Rattle.prooflog.proofs.refutation.Refutation.make.Goals as goal

pub invariant_of-result : goal.invariant_of-result
invariant_of-result c =
    let tested : c.are_in_range.result ≡ list_all is_line_in_range c.args.lines.items = c.are_in_range.ensures.same ∙ ap (list_all is_line_in_range) c.deref.ensures.value in
    let few : length c.args.lines.items ≤ 1000000 = omega (arith, c.len.ensures, c.if-len-gt-MOST_LINES.false) in
    let nodes : length c.args.tree ≤ 65536 = omega (arith, ap length c.nodes.ensures.same, c.if-nodes-gt-MOST_NODES.false) in
    let shallow : IsTrue (list_all is_depth (depths (0 ∷ []) c.args.tree)) = ap (λ (nodes : List Node). list_all is_depth (depths (0 ∷ []) nodes)) (sym c.nodes-2.ensures.same) ∙ sym c.in-Ok.ensures ∙ c.if-not-shallow.false in (
      record { variables = c.if-variables-gt-LARGEST_NUMBER.false; clauses = c.if-clauses-gt-LARGEST_NUMBER.false; lines = sym tested ∙ c.if-not-are_in_range.false; numbered = c.nodes.ensures.numbered; is_tree = c.nodes.ensures.tree },
      record { few_lines = few; few_nodes = nodes; shallow = shallow },
    )

pub returns-clause-limits : goal.returns-clause-limits
returns-clause-limits c = invariant_of-result c
