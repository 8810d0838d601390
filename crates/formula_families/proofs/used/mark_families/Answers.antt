use Rattle.std.proofs.Common.{◌++◌, length, refl, subst}
use Rattle.std.specs.List.{flat_map}
use Rattle.std.proofs.lemmas.List.{take_all}
use Rattle.formula.specs.Families.{events}
use Rattle.formula_families.specs.parts.Blocks.{AreMarks, orders_of_family}
use Rattle.formula_families.proofs.Marking.{marks_step}
use Rattle.formula_families.proofs.used.mark_families.Goals as goal

pub loop-family-preserved : goal.loop-family-preserved
loop-family-preserved c =
    let p = c.args.source.now in
    marks_step (length (events p)) (orders_of_family p) c.args.families.now c.loop-family.family-index _ _ c.args.marks.now c.loop-family.marks c.mark_family.new.marks c.loop-family-test.true refl c.loop-family.invariant c.in_ok-mark_family.ensures

pub returns : goal.returns
returns c =
    let p = c.args.source.now in
    λ orders h. subst (λ l. AreMarks (length (events p)) (orders ++ flat_map (orders_of_family p) l) c.loop-family.marks) (take_all c.loop-family.family-index c.args.families.now c.loop-family-test.false) (c.loop-family.invariant orders h)
