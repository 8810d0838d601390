use Rattle.std.proofs.Common.{◌∙◌, arith}
use Rattle.pool.specs.parts.Batches.{capped_move}
use Rattle.pool.proofs.Renumbered.{one_more_put}
use Rattle.pool.proofs.derived.move_hints.Goals as goal

pub loop-number-preserved : goal.loop-number-preserved
loop-number-preserved c =
    one_more_put (capped_move c.args.first c.args.base) c.loop-number.numbers c.loop-number.number-index _ c.moved_hint.result (omega (arith, c.loop-number-test.true, c.loop-number.auto.numbers)) c.moved_hint.ensures
    ∙ c.loop-number.invariant
