use Rattle.std.proofs.Common.{refl, arith}
use Rattle.pages.proofs.Fronts.{take_more_at}
use Rattle.pages.proofs.copies.are_first.Goals as goal

pub loop-place-preserved : goal.loop-place-preserved
loop-place-preserved g c =
    take_more_at c.args.from c.loop-place.place (g.L.LineList.lines c.args.lines.now) (g.M.LineList.lines c.args.others.now)
    (omega (arith, c.requires, c.len.ensures, c.len-else-len-from.ensures, c.if-len-from.false, c.if-len-count.false, c.loop-place-test.true))
    (omega (arith, c.len.ensures, c.len-else-len-from.ensures, c.if-len-count.false, c.loop-place-test.true))
    (c.if-not-is_at.ensures refl)
    c.loop-place.invariant
