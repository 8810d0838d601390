use Rattle.std.proofs.Common.{◌∙◌, arith}
use Rattle.trimming.specs.Needed.{renumber}
use Rattle.trimming.proofs.Ranges.{one_more_put}
use Rattle.trimming.proofs.renumbering.Renumbering.renumber.Goals as goal

pub loop-number-preserved : goal.loop-number-preserved
loop-number-preserved c =
    one_more_put (renumber c.args.self.now.clauses c.args.self.now.flags) c.loop-number.numbers c.loop-number.number-index _ c.number.result (omega (arith, c.loop-number-test.true, c.loop-number.auto.numbers)) c.number.ensures
    ∙ c.loop-number.invariant
