use Rattle.std.proofs.Common.{refl}
use Rattle.formula_families.proofs.Marking.{marks_more}
use Rattle.formula_families.proofs.used.mark.Goals as goal

pub returns-then-second-most : goal.returns-then-second-most
returns-then-second-most c =
    λ orders h. marks_more c.args.most orders c.args.marks.now _ c.args.first c.args.second c.requires c.if-first-most.true c.if-second-most.true refl h
