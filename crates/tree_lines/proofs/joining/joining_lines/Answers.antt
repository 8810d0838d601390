use Rattle.std.proofs.Common.{◌≡◌, ◌-◌, ◌++◌, ◌∷◌, [], subst, arith}
use Rattle.clauses.specs.Clauses.{Literal}
use Rattle.tree_lines.specs.parts.Entries.{IsSplitEntry}
use Rattle.tree_lines.proofs.Forests.{walked_none, walked_leaf, walked_split, walked_pop, walked_two, leaf_named, walked_all, root_popped, no_empty_stack, root_has_number, root_named, accepts_nodes}
use Rattle.std.proofs.lemmas.Bool.{false≢true}
use Rattle.tree_lines.proofs.NodeNumbers.{number_at, number_bounds}
use Rattle.tree_lines.proofs.joining.joining_lines.Goals as goal
use Rattle.tree_lines.proofs.joining.joining_lines.Goals.{in-Leaf+in_ok-entry-in-Leaf, in-Split+in-Some+in_ok-entry-in-Split}

pub loop-place-init : goal.loop-place-init
loop-place-init c =
    let accepts = accepts_nodes c.args.formula.now c.args.lines.now c.args.tree.now c.nodes-nodes.result.now c.nodes-nodes.ensures.same c.requires in
    walked_none c.args.formula.now c.args.lines.now c.new-added.result.items c.nodes-nodes.result.now _ c.new-entries.result.items accepts c.new-added.ensures.items c.new-entries.ensures.items (omega arith)

pub leaf_entry-requires-clause-named : goal.leaf_entry-requires-clause-named
leaf_entry-requires-clause-named c =
    let accepts = accepts_nodes c.args.formula.now c.args.lines.now c.args.tree.now c.nodes-nodes.result.now c.nodes-nodes.ensures.same c.requires in
    leaf_named c.args.formula.now c.args.lines.now c.nodes-nodes.result.now (c.loop-place.place - 1) c.in-Leaf.number accepts (omega arith) c.in-Leaf.is

pub pop_two-first-requires : goal.pop_two-first-requires
pop_two-first-requires c =
    let accepts = accepts_nodes c.args.formula.now c.args.lines.now c.args.tree.now c.nodes-nodes.result.now c.nodes-nodes.ensures.same c.requires in
    let two = walked_two c.args.formula.now c.args.lines.now c.loop-place.added.items c.nodes-nodes.result.now (c.loop-place.place - 1) c.loop-place.place c.loop-place.entries.items c.in-Split.variable accepts (omega arith) (omega arith) c.in-Split.is c.loop-place.invariant in
    omega (arith, c.loop-place.entries.ok.0)

pub split_entry-requires-clause-first : goal.split_entry-requires-clause-first
split_entry-requires-clause-first c =
    (walked_pop c.args.formula.now c.args.lines.now c.loop-place.added.items c.nodes-nodes.result.now c.loop-place.place c.loop-place.entries.items c.pop_two-first.new.entries.items c.pop_two-first.result.0 c.pop_two-first.result.1 c.pop_two-first.ensures c.loop-place.invariant).0

pub split_entry-requires-clause-second : goal.split_entry-requires-clause-second
split_entry-requires-clause-second c =
    (walked_pop c.args.formula.now c.args.lines.now c.loop-place.added.items c.nodes-nodes.result.now c.loop-place.place c.loop-place.entries.items c.pop_two-first.new.entries.items c.pop_two-first.result.0 c.pop_two-first.result.1 c.pop_two-first.ensures c.loop-place.invariant).1

pub loop-place-preserved : goal.loop-place-preserved
loop-place-preserved c =
    elim c.match-nodes-place.branch [
      | in-Leaf+in_ok-entry-in-Leaf w ↦
          let pushed : c.push.new.self.items ≡ c.loop-place.entries.items ++ w.in_ok-entry-in-Leaf.entry ∷ [] = rw (← w.entries-is, ← w.entry-is) c.in_ok-push.ensures.items in
          rw w.added-is (walked_leaf c.args.formula.now c.args.lines.now c.loop-place.added.items c.nodes-nodes.result.now (c.loop-place.place - 1) c.loop-place.place c.loop-place.entries.items c.push.new.self.items w.in-Leaf.number w.in_ok-entry-in-Leaf.entry (omega arith) (omega arith) w.in-Leaf.is w.in_ok-entry-in-Leaf.ensures.entry w.in_ok-entry-in-Leaf.ensures.literals pushed c.loop-place.invariant)
      | in-Split+in-Some+in_ok-entry-in-Split w ↦
          let first = w.pop_two-first.result.0 in
          let second = w.pop_two-first.result.1 in
          let pushed : c.push.new.self.items ≡ w.pop_two-first.new.entries.items ++ w.in_ok-entry-in-Split.entry ∷ [] = rw (← w.entries-is, ← w.entry-is) c.in_ok-push.ensures.items in
          let split = subst (λ (l : Literal). IsSplitEntry c.args.formula.now c.args.lines.now c.loop-place.added.items w.split_entry.new.added.items l first second w.in_ok-entry-in-Split.entry) w.in-Some.ensures.made w.in_ok-entry-in-Split.ensures in
          rw w.added-is (walked_split c.args.formula.now c.args.lines.now c.loop-place.added.items w.split_entry.new.added.items c.nodes-nodes.result.now (c.loop-place.place - 1) c.loop-place.place c.loop-place.entries.items w.pop_two-first.new.entries.items c.push.new.self.items w.in-Split.variable first second w.in_ok-entry-in-Split.entry (omega arith) (omega arith) w.in-Split.is w.pop_two-first.ensures split pushed c.loop-place.invariant)
    ]

pub unreachable-requires-in_default-pop : goal.unreachable-requires-in_default-pop
unreachable-requires-in_default-pop c =
    let accepts = accepts_nodes c.args.formula.now c.args.lines.now c.args.tree.now c.nodes-nodes.result.now c.nodes-nodes.ensures.same c.requires in
    let root = walked_all c.args.formula.now c.args.lines.now c.loop-place.added.items c.nodes-nodes.result.now c.loop-place.place c.loop-place.entries.items accepts (omega arith) c.loop-place.invariant in
    no_empty_stack c.args.formula.now c.args.lines.now c.loop-place.added.items c.loop-place.entries.items root (omega (arith, c.loop-place.entries.ok.0, c.in_default-pop.ensures.cases.0))

pub unreachable-requires-in_default-number : goal.unreachable-requires-in_default-number
unreachable-requires-in_default-number c =
    let accepts = accepts_nodes c.args.formula.now c.args.lines.now c.args.tree.now c.nodes-nodes.result.now c.nodes-nodes.ensures.same c.requires in
    let root = walked_all c.args.formula.now c.args.lines.now c.loop-place.added.items c.nodes-nodes.result.now c.loop-place.place c.loop-place.entries.items accepts (omega arith) c.loop-place.invariant in
    let last = root_popped c.args.formula.now c.args.lines.now c.loop-place.added.items c.loop-place.entries.items c.pop.new.self.items c.in-Some-pop.root root c.in-Some-pop.ensures.items in
    root_has_number c.args.formula.now (c.args.lines.now ++ c.loop-place.added.items) c.in-Some-pop.root last.0 last.1 c.in_default-number.is

pub close-requires-clause-empty : goal.close-requires-clause-empty
close-requires-clause-empty c =
    let accepts = accepts_nodes c.args.formula.now c.args.lines.now c.args.tree.now c.nodes-nodes.result.now c.nodes-nodes.ensures.same c.requires in
    let root = walked_all c.args.formula.now c.args.lines.now c.loop-place.added.items c.nodes-nodes.result.now c.loop-place.place c.loop-place.entries.items accepts (omega arith) c.loop-place.invariant in
    let last = root_popped c.args.formula.now c.args.lines.now c.loop-place.added.items c.loop-place.entries.items c.pop.new.self.items c.in-Some-pop.root root c.in-Some-pop.ensures.items in
    root_named c.args.formula.now (c.args.lines.now ++ c.loop-place.added.items) c.in-Some-pop.root c.in-Some-number.number last.0 last.1 c.in-Some-number.is

pub leaf_entry-requires-clause-derived : goal.leaf_entry-requires-clause-derived
leaf_entry-requires-clause-derived c = c.requires.lines_derived

pub leaf_entry-requires-clause-number : goal.leaf_entry-requires-clause-number
leaf_entry-requires-clause-number c = number_at c.nodes-nodes.result.now c.args.tree.now (c.loop-place.place - 1) _ c.nodes-nodes.ensures.same c.nodes-nodes.ensures.numbered (omega arith) c.in-Leaf.is

pub split_entry-requires-clause-derived : goal.split_entry-requires-clause-derived
split_entry-requires-clause-derived c = c.loop-place.invariant.derived

pub close-requires-clause-derived : goal.close-requires-clause-derived
close-requires-clause-derived c = c.loop-place.invariant.derived

pub returns : goal.returns
returns c = c.in_ok-close.ensures

pub unreachable-requires : goal.unreachable-requires
unreachable-requires c =
    false≢true (c.in_default.ensures.when.1 (number_bounds c.in-Split.variable (number_at c.nodes-nodes.result.now c.args.tree.now (c.loop-place.place - 1) _ c.nodes-nodes.ensures.same c.nodes-nodes.ensures.numbered (omega arith) c.in-Split.is)))
