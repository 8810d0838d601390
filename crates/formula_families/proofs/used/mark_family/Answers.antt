use Rattle.std.proofs.Common.{◌++◌, [], ◌<◌, if◌then◌else◌, length, sym, ap, ◌∙◌, subst, arith}
use Rattle.std.specs.List.{flat_map}
use Rattle.std.proofs.lemmas.List.{take_all, append-nil}
use Rattle.formula.specs.Families.{events}
use Rattle.formula_families.specs.parts.Blocks.{block, blocks_of, AreMarks, orders_of}
use Rattle.formula_families.specs.Blocks.{size_of}
use Rattle.formula_families.proofs.FamilyBlocks.{block_at, blocks_count}
use Rattle.formula_families.proofs.Marking.{marks_step}
use Rattle.formula_families.proofs.used.mark_family.Goals as goal

pub loop-place-preserved : goal.loop-place-preserved
loop-place-preserved c =
    let p = c.args.source.now in
    let family = c.args.family in
    let place = c.loop-place.place in
    let below : place < size_of p family = omega (arith, c.loop-place-test.true, c.size_of-place-end.ensures) in
    marks_step (length (events p)) (orders_of p) (blocks_of p family) place (block family 0) (block family place) c.args.marks.now c.loop-place.marks c.mark_block.new.marks (omega (arith, below, blocks_count p family)) (block_at p family place (block family 0) below) c.loop-place.invariant c.in_ok-mark_block.ensures

pub returns : goal.returns
returns c =
    let p = c.args.source.now in
    let family = c.args.family in
    let all = take_all c.loop-place.place (blocks_of p family) (omega (arith, c.loop-place-test.false, c.size_of-place-end.ensures, blocks_count p family)) in
    λ orders h. subst (λ l. AreMarks (length (events p)) (orders ++ l) c.loop-place.marks) (ap (flat_map (orders_of p)) all ∙ ap (λ b. if b then flat_map (orders_of p) (blocks_of p family) else []) (sym c.if-not-states_order.false ∙ c.states_order.ensures)) (c.loop-place.invariant orders h)

pub returns-then-not-states_order : goal.returns-then-not-states_order
returns-then-not-states_order c =
    let p = c.args.source.now in
    let family = c.args.family in
    λ orders h. subst (λ l. AreMarks (length (events p)) l c.args.marks.now) (sym (append-nil orders) ∙ ap (λ b. orders ++ (if b then flat_map (orders_of p) (blocks_of p family) else [])) (sym c.if-not-states_order.true ∙ c.states_order.ensures)) h
