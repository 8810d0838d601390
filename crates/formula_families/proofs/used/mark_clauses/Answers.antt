use Rattle.std.proofs.Common.{◌++◌, [], length, subst, arith}
use Rattle.std.specs.List.{flat_map}
use Rattle.std.proofs.lemmas.List.{take_all}
use Rattle.formula.specs.Families.{events}
use Rattle.formula.specs.Orders.{places_in}
use Rattle.formula_families.specs.parts.Blocks.{AreMarks}
use Rattle.formula_families.proofs.Marking.{marks_step}
use Rattle.formula_families.proofs.used.mark_clauses.Goals as goal

pub loop-place-preserved : goal.loop-place-preserved
loop-place-preserved c =
    let p = c.args.events.now in
    marks_step (length (events p)) (flat_map (places_in p)) c.args.clauses.now c.loop-place.place [] c.clause.result.now c.args.marks.now c.loop-place.marks c.mark_clause.new.marks (omega (arith, c.loop-place-test.true, c.len-place-end.ensures)) c.clause.ensures c.loop-place.invariant c.mark_clause.ensures

pub returns : goal.returns
returns c =
    let p = c.args.events.now in
    let all = take_all c.loop-place.place c.args.clauses.now (omega (arith, c.loop-place-test.false, c.len-place-end.ensures)) in
    λ orders h. subst (λ l. AreMarks (length (events p)) (orders ++ flat_map (flat_map (places_in p)) l) c.loop-place.marks) all (c.loop-place.invariant orders h)
