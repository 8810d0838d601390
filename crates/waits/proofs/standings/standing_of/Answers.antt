use Rattle.std.proofs.Common.{sym, ◌∙◌}
use Rattle.waits.specs.declared.standings.Standing.TheVariants.{Ready}
use Rattle.waits.proofs.StuckRanks.{stands_exactly}
use Rattle.waits.proofs.standings.standing_of.Goals as goal

pub returns : goal.returns
returns c =
    stands_exactly c.args.program.now c.args.state.now c.args.rank Ready (record { unfinished = sym c.is_rank_finished.ensures ∙ c.if-is_rank_finished.false; free = c.in_default.ensures.none })
