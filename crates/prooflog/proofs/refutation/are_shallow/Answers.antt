use Rattle.std.proofs.lemmas.Grind.{common_steps}
use Rattle.std.proofs.Common.{◌≡◌, ◌+◌, ◌<◌, ℕ, Bool, true, false, List, [], ◌∷◌, get_or, drop, reverse, ap, sym, ◌∙◌, rules, arith}
use Rattle.std.specs.Prelude.{◌&&◌}
use Rattle.std.specs.List.{list_all}
use Rattle.std.proofs.lemmas.Bool.{lt-leb}
use Rattle.std.proofs.lemmas.List.{drop_more, reverse-append}
use Rattle.refutations.specs.declared.tree.Node.{Node}
use Rattle.refutations.specs.declared.tree.Node.TheVariants.{Split, Leaf}
use Rattle.prooflog.specs.Refutations.{depths, is_depth, waiting_after}
use Rattle.prooflog.proofs.Nodes.{deep_step}
use Rattle.prooflog.proofs.refutation.are_shallow.Goals as goal

-- a node that stands too deep is told first
too_deep : (depth : ℕ) (roots : List ℕ) (node : Node) (nodes : List Node) → 64 < depth → list_all is_depth (depths (depth ∷ roots) (node ∷ nodes)) ≡ false
too_deep depth roots (Split variable) nodes large = ap (λ (b : Bool). b && list_all is_depth (depths ((depth + 1) ∷ (depth + 1) ∷ roots) nodes)) (lt-leb depth 64 large)
too_deep depth roots (Leaf number) nodes large = ap (λ (b : Bool). b && list_all is_depth (depths roots nodes)) (lt-leb depth 64 large)

pub returns-then-is_too_deep : goal.returns-then-is_too_deep
returns-then-is_too_deep c =
    let others : List ℕ = c.pop.new.self.items in
    let depth : ℕ = c.in-Some.depth in
    let next = drop_more c.args.nodes.now c.loop-node.node-index (Leaf 0) c.loop-node-test.true in
    let last : reverse c.loop-node.waiting.items ≡ depth ∷ reverse others = ap reverse c.in-Some.ensures.items ∙ reverse-append others (depth ∷ []) in
    sym (too_deep depth (reverse others) (get_or c.args.nodes.now c.loop-node.node-index (Leaf 0)) (drop (c.loop-node.node-index + 1) c.args.nodes.now) (c.is_too_deep.ensures.yes c.if-is_too_deep.true))
    ∙ (λ i. list_all is_depth (depths (sym last i) (sym next i))) ∙ c.loop-node.invariant

pub loop-node-init : goal.loop-node-init
loop-node-init c = search rules

pub offset_bounds-nodes-node-index : goal.offset_bounds-nodes-node-index
offset_bounds-nodes-node-index c = search rules

pub returns-in_default : goal.returns-in_default
returns-in_default c = search rules

pub loop-node-preserved : goal.loop-node-preserved
loop-node-preserved c =
    let others : List ℕ = c.pop.new.self.items in
    let depth : ℕ = c.in-Some.depth in
    let node : Node = get_or c.args.nodes.now c.loop-node.node-index (Split 0) in
    let rest : List Node = drop (c.loop-node.node-index + 1) c.args.nodes.now in
    let shallow : is_depth depth ≡ true = grind (arith, c.is_too_deep.ensures.no c.if-is_too_deep.false) in
    let next = drop_more c.args.nodes.now c.loop-node.node-index (Split 0) c.loop-node-test.true in
    ap (λ (ds : List ℕ). list_all is_depth (depths (reverse ds) rest)) c.in_ok-push_children.ensures
    ∙ ap (λ (b : Bool). b && list_all is_depth (depths (reverse (waiting_after others depth node)) rest)) (sym shallow)
    ∙ sym (deep_step others depth node rest) ∙ (λ i. list_all is_depth (depths (reverse (sym c.in-Some.ensures.items i)) (sym next i))) ∙ c.loop-node.invariant

pub returns : goal.returns
returns c = grind (arith, common_steps)
