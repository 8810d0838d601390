use Rattle.waits.specs.Waiting.{IsMissing}
use Rattle.waits.proofs.NeededRanks.{if_ok, one_rank}
use Rattle.waits.proofs.waiting.missing.Goals as goal

pub returns-clause-ranks : goal.returns-clause-ranks
returns-clause-ranks c =
    if_ok _ _ c.alone.result (λ ranks has. one_rank c.in-Some.peer c.is_missing.result (IsMissing c.args.program.now c.args.state.now c.args.operation) ranks.items has c.is_missing.ensures
    (λ other missing. c.in-Some.ensures.some missing.call other missing.fit missing.own)) c.alone.ensures.ranks
