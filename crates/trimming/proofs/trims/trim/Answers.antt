use Rattle.std.proofs.Common.{◌≡◌, ◌+◌, ◌∙◌, true, IsTrue, List, ap, length, map, sym, subst, rules}
use Rattle.std.proofs.lemmas.Bool.{false≢true}
use Rattle.refutations.specs.declared.tree.Node.{Node}
use Rattle.refutations.specs.Proofs.{is_tree, are_numbered}
use Rattle.trimming.specs.Needed.{are_named, needed, renumber, renumbered_node, trimmed_lines, trimmed_nodes}
use Rattle.trimming.proofs.Ranges.{nodes_renumbered, trees_renumbered}
use Rattle.trimming.proofs.TrimLaws.{accepted_as, length_needed, needed_as}
use Rattle.trimming.proofs.trims.trim.Goals as goal

pub keep-requires : goal.keep-requires
keep-requires c =
    let flags : c.in_ok-renumbering.renumbering.flags ≡ needed c.args.tree.now (c.args.clauses + 1) c.args.lines.now.items = search rules in
    ap length flags ∙ length_needed c.args.tree.now (c.args.clauses + 1) c.args.lines.now.items

pub unreachable-requires : goal.unreachable-requires
unreachable-requires c =
    let flags = c.in_ok-renumbering.renumbering.flags in
    let clauses = c.in_ok-renumbering.renumbering.clauses in
    let new = renumber clauses flags in
    let nodes : c.in_ok-nodes.nodes.items ≡ map (renumbered_node new) c.args.tree.now = search rules in
    let tree : IsTrue (is_tree c.in_ok-nodes.nodes.items) =
    subst (λ (l : List Node). IsTrue (is_tree l)) (sym nodes) (trees_renumbered new 1 c.args.tree.now ∙ c.nodes-3.ensures.tree) in
    let numbered : IsTrue (are_numbered c.in_ok-nodes.nodes.items) =
    subst (λ (l : List Node). IsTrue (are_numbered l)) (sym nodes) (nodes_renumbered clauses flags c.args.tree.now c.nodes-3.ensures.numbered) in
    false≢true (c.in_default.ensures.when.1 (tree, numbered))

pub returns-clause-accepted : goal.returns-clause-accepted
returns-clause-accepted c =
    let lines : c.keep.new.lines.items ≡ trimmed_lines c.args.clauses c.args.lines.now.items c.args.tree.now = search rules in
    let nodes : c.in-Ok.trimmed ≡ trimmed_nodes c.args.clauses c.args.lines.now.items c.args.tree.now = search rules in
    accepted_as c.args.clauses c.args.lines.now.items c.keep.new.lines.items c.args.tree.now c.in-Ok.trimmed lines nodes

pub returns-clause-needed : goal.returns-clause-needed
returns-clause-needed c =
    let lines : c.keep.new.lines.items ≡ trimmed_lines c.args.clauses c.args.lines.now.items c.args.tree.now = search rules in
    let nodes : c.in-Ok.trimmed ≡ trimmed_nodes c.args.clauses c.args.lines.now.items c.args.tree.now = search rules in
    needed_as c.args.clauses c.args.lines.now.items c.keep.new.lines.items c.args.tree.now c.in-Ok.trimmed lines nodes

pub returns-clause-number_only : goal.returns-clause-number_only
returns-clause-number_only c = λ stray.
    let named : are_named c.args.clauses c.args.lines.now.items c.args.tree.now ≡ true = search rules in
    absurd (false≢true (sym stray ∙ named))
