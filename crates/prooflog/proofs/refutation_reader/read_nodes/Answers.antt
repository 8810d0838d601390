use Rattle.std.proofs.Common.{◌≡◌, ◌+◌, ◌<◌, ◌≤◌, [], ◌∷◌, ◌++◌, length, true, arith, ap, sym, subst, ◌∙◌, inl, inr, ◌⊎◌}
use Rattle.std.proofs.lemmas.Grind.{common_steps}
use Rattle.std.proofs.lemmas.List.{length-append}
use Rattle.plaintext.specs.Plain.{text_lines}
use Rattle.refutations.specs.Proofs.{is_proof_number, number_of}
use Rattle.prooflog.specs.Refutations.{item_line, a_node}
use Rattle.prooflog.proofs.Nodes.{NodesSoFar, one_more_node, nodes_stop_syntax, nodes_stop_after, nodes_stop_range, nodes_stop_large, nodes_unended, nodes_whole, no_node_line, node_line_of, read_node, over_node, first_line}
use Rattle.prooflog.proofs.refutation_reader.read_nodes.Goals as goal

pub returns-in_default-next_line-clause-fault : goal.returns-in_default-next_line-clause-fault
returns-in_default-next_line-clause-fault c =
    let some : 0 < length c.loop-depth.waiting.items = omega (arith, ap length c.in-Some.ensures.items, length-append c.pop.new.self.items (c.in-Some.depth ∷ [])) in
    nodes_unended c.args.bytes.now c.loop-depth.rest.now c.args.first c.loop-depth.number c.loop-depth.nodes.items c.loop-depth.waiting.items c.loop-depth.invariant some c.in_default-next_line.ensures.none

pub returns-in_default-node_of-clause-fault : goal.returns-in_default-node_of-clause-fault
returns-in_default-node_of-clause-fault c =
    let line = c.in-Some-next_line.line.now in
    let some : 0 < length c.loop-depth.waiting.items = omega (arith, ap length c.in-Some.ensures.items, length-append c.pop.new.self.items (c.in-Some.depth ∷ [])) in
    λ version v clauses lines fits placed. nodes_stop_syntax c.args.bytes.now c.loop-depth.rest.now c.args.first c.loop-depth.number c.loop-depth.nodes.items c.loop-depth.waiting.items c.loop-depth.invariant
    (line ++ 10 ∷ []) (text_lines c.in-Some-next_line.after.now) c.in-Some-next_line.ensures.some version v clauses lines fits placed some (no_node_line line c.in_default-node_of.ensures.none)

pub returns-then-not-is_numbered-clause-fault : goal.returns-then-not-is_numbered-clause-fault
returns-then-not-is_numbered-clause-fault c =
    let line = c.in-Some-next_line.line.now in
    let read = c.in-Some-node_of.ensures.some in
    let some : 0 < length c.loop-depth.waiting.items = omega (arith, ap length c.in-Some.ensures.items, length-append c.pop.new.self.items (c.in-Some.depth ∷ [])) in
    λ version v clauses lines fits placed. nodes_stop_range c.args.bytes.now c.loop-depth.rest.now c.args.first c.loop-depth.number c.loop-depth.nodes.items c.loop-depth.waiting.items c.loop-depth.invariant
    (line ++ 10 ∷ []) (text_lines c.in-Some-next_line.after.now) c.in-Some-next_line.ensures.some version v clauses lines fits placed some read.0 (node_line_of line read.0 read.1)
    (over_node read.0 c.in-Some-node_of.node read.2 (λ numbered. let known = c.is_numbered.ensures in let f = c.if-not-is_numbered.true in cc))

pub returns-then-is_beyond-clause-fault : goal.returns-then-is_beyond-clause-fault
returns-then-is_beyond-clause-fault c =
    let line = c.in-Some-next_line.line.now in
    let read = c.in-Some-node_of.ensures.some in
    let numbered : is_proof_number (number_of c.in-Some-node_of.node) ≡ true = sym c.is_numbered.ensures ∙ c.if-not-is_numbered.false in
    let same : c.in-Some-node_of.node ≡ read.0 = read_node read.0 c.in-Some-node_of.node read.2 numbered in
    let large : (65536 ≤ length c.loop-depth.nodes.items) ⊎ (64 < c.in-Some.depth) = elim (c.is_beyond.ensures.yes c.if-is_beyond.true) [
      | inl h ↦ inl (grind (arith, common_steps, c.len.ensures, h))
      | inr h ↦ inr h
    ] in
    λ version v clauses lines fits placed. nodes_stop_large c.args.bytes.now c.loop-depth.rest.now c.args.first c.loop-depth.number c.loop-depth.nodes.items c.loop-depth.waiting.items c.loop-depth.invariant
    (line ++ 10 ∷ []) (text_lines c.in-Some-next_line.after.now) c.in-Some-next_line.ensures.some version v clauses lines fits placed c.pop.new.self.items c.in-Some.depth c.in-Some.ensures.items
    read.0 (node_line_of line read.0 read.1) (ap (λ node. is_proof_number (number_of node)) (sym same) ∙ numbered) large

pub loop-depth-preserved : goal.loop-depth-preserved
loop-depth-preserved c =
    let line = c.in-Some-next_line.line.now in
    let read = c.in-Some-node_of.ensures.some in
    let numbered : is_proof_number (number_of c.in-Some-node_of.node) ≡ true = sym c.is_numbered.ensures ∙ c.if-not-is_numbered.false in
    let same : c.in-Some-node_of.node ≡ read.0 = read_node read.0 c.in-Some-node_of.node read.2 numbered in
    let inside = c.is_beyond.ensures.no c.if-is_beyond.false in
    let room : length c.loop-depth.nodes.items < 65536 = grind (arith, common_steps, c.len.ensures, inside.0) in
    let so = subst (λ waiting. NodesSoFar c.args.bytes.now c.loop-depth.rest.now c.args.first c.loop-depth.number c.loop-depth.nodes.items waiting) c.in-Some.ensures.items c.loop-depth.invariant in
    subst (λ items. NodesSoFar c.args.bytes.now c.in-Some-next_line.after.now c.args.first (c.loop-depth.number + 1) items c.push_children.new.waiting.items) (sym c.in_ok-push-2.ensures.items) (
    subst (λ waiting. NodesSoFar c.args.bytes.now c.in-Some-next_line.after.now c.args.first (c.loop-depth.number + 1) (c.loop-depth.nodes.items ++ c.in-Some-node_of.node ∷ []) waiting) (sym c.in_ok-push_children.ensures) (
    one_more_node c.args.bytes.now c.loop-depth.rest.now c.in-Some-next_line.after.now c.args.first c.loop-depth.number c.loop-depth.nodes.items c.pop.new.self.items c.in-Some.depth c.in-Some-node_of.node (line ++ 10 ∷ []) so c.in-Some-next_line.ensures.some
    (ap (λ node. item_line (a_node node)) same ∙ node_line_of line read.0 read.1) numbered room inside.1
    ))

pub returns-then-not-is_empty-clause-fault : goal.returns-then-not-is_empty-clause-fault
returns-then-not-is_empty-clause-fault c =
    let none : length c.loop-depth.waiting.items ≡ 0 = grind (arith, common_steps, ap length c.in_default.ensures.items, c.in_default.ensures.variant) in
    let left : 0 < length c.loop-depth.rest.now = grind (arith, common_steps, c.is_empty.ensures, c.if-not-is_empty.true) in
    let line = first_line c.loop-depth.rest.now left in
    λ version v clauses lines fits placed. nodes_stop_after c.args.bytes.now c.loop-depth.rest.now c.args.first c.loop-depth.number c.loop-depth.nodes.items c.loop-depth.waiting.items c.loop-depth.invariant
    line.line line.after line.cut version v clauses lines fits placed none line.some

pub returns-clause-cut : goal.returns-clause-cut
returns-clause-cut c =
    let none : length c.loop-depth.waiting.items ≡ 0 = grind (arith, common_steps, ap length c.in_default.ensures.items, c.in_default.ensures.variant) in
    let ended : length c.loop-depth.rest.now ≡ 0 = grind (arith, common_steps, c.is_empty.ensures, c.if-not-is_empty.false) in
    (nodes_whole c.args.bytes.now c.loop-depth.rest.now c.args.first c.loop-depth.number c.loop-depth.nodes.items c.loop-depth.waiting.items c.loop-depth.invariant none ended).0

pub returns-clause-small : goal.returns-clause-small
returns-clause-small c =
    let none : length c.loop-depth.waiting.items ≡ 0 = grind (arith, common_steps, ap length c.in_default.ensures.items, c.in_default.ensures.variant) in
    let ended : length c.loop-depth.rest.now ≡ 0 = grind (arith, common_steps, c.is_empty.ensures, c.if-not-is_empty.false) in
    (nodes_whole c.args.bytes.now c.loop-depth.rest.now c.args.first c.loop-depth.number c.loop-depth.nodes.items c.loop-depth.waiting.items c.loop-depth.invariant none ended).2

pub returns-clause-tree : goal.returns-clause-tree
returns-clause-tree c =
    let none : length c.loop-depth.waiting.items ≡ 0 = grind (arith, common_steps, ap length c.in_default.ensures.items, c.in_default.ensures.variant) in
    let ended : length c.loop-depth.rest.now ≡ 0 = grind (arith, common_steps, c.is_empty.ensures, c.if-not-is_empty.false) in
    (nodes_whole c.args.bytes.now c.loop-depth.rest.now c.args.first c.loop-depth.number c.loop-depth.nodes.items c.loop-depth.waiting.items c.loop-depth.invariant none ended).1
