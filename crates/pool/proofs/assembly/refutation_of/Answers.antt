use Rattle.std.proofs.Common.{Err, length, arith, ap, refl, sym, ◌∙◌}
use Rattle.std.specs.List.{list_all}
use Rattle.prooflog.specs.Refutations.{ClaimedRefutation, is_line_in_range}
use Rattle.pool.proofs.Assembling.{within_limits_of, accepts_claim, leaves_numbered, tree_as}
use Rattle.pool.proofs.assembly.refutation_of.Goals as goal

pub proof_tree-requires-clause-numbered : goal.proof_tree-requires-clause-numbered
proof_tree-requires-clause-numbered c =
    leaves_numbered c.args.formula.now c.args.lines.items c.args.tree.now.nodes c.args.closed.now c.requires.few_clauses c.requires.few_lines c.requires.refuted

pub unreachable-requires : goal.unreachable-requires
unreachable-requires c =
    let in_range = sym (c.are_in_range-in_range.ensures.same ∙ ap (list_all is_line_in_range) c.deref.ensures.value) ∙ c.are_in_range-in_range.ensures.always in
    c.make.ensures.too_large (c.in-Err-TooLarge.is ∙ ap Err c.in-Err-TooLarge.field-0-is)
    (within_limits_of c.args.tree.now c.variables.result _ c.args.lines.items c.args.lines.items c.in_ok-nodes.nodes
    (c.variables.ensures ∙ sym c.requires.variables) refl c.variables-limits.ensures.grown
    (omega (arith, c.requires.few_clauses, ap length c.clauses.ensures.same)) c.requires.few_lines in_range
    c.args.closed.now c.in_ok-nodes.ensures c.nodes-numbered.ensures.tree c.nodes-numbered.ensures.numbered)

pub returns-in-Ok-clause-accepted : goal.returns-in-Ok-clause-accepted
returns-in-Ok-clause-accepted c =
    accepts_claim c.args.formula.now c.args.lines.items c.args.tree.now c.args.closed.now c.in-Ok.refutation c.in_ok-nodes.nodes
    (ap (λ (r : ClaimedRefutation). r.lines) c.in-Ok.ensures.made) (ap (λ (r : ClaimedRefutation). r.nodes) c.in-Ok.ensures.made)
    c.requires.variables c.variables-limits.ensures.grown c.requires.derived c.requires.refuted c.in_ok-nodes.ensures

pub returns-in-Ok-clause-tree : goal.returns-in-Ok-clause-tree
returns-in-Ok-clause-tree c =
    tree_as c.args.tree.now.nodes c.args.closed.now c.in_ok-nodes.nodes _ (ap (λ (r : ClaimedRefutation). r.nodes) c.in-Ok.ensures.made) c.in_ok-nodes.ensures
