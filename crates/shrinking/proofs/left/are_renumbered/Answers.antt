use Rattle.std.proofs.Common.{arith, refl}
use Rattle.shrinking.proofs.Words.{words_more}
use Rattle.shrinking.proofs.left.are_renumbered.Goals as goal

pub loop-place-preserved : goal.loop-place-preserved
loop-place-preserved c =
    words_more c.in-Some-Some.first.now.now c.args.olds.now c.args.news.now c.loop-place.place _ _
    (omega (arith, c.loop-place-test.true, c.if-olds-news.false)) c.loop-place-test.true
    (c.if-not-is_same_word.ensures refl) c.loop-place.invariant
