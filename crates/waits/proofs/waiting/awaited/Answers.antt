use Rattle.std.proofs.Common.{refl}
use Rattle.waits.specs.declared.standings.Standing.TheVariants.{Waits}
use Rattle.waits.proofs.NeededRanks.{if_ok, waits_for_needed, waits_for_nobody}
use Rattle.waits.proofs.waiting.awaited.Goals as goal

pub returns-in-Waits-clause-ranks : goal.returns-in-Waits-clause-ranks
returns-in-Waits-clause-ranks c =
    if_ok _ _ c.needed_by.result (λ ranks needs. waits_for_needed c.args.program.now c.args.state.now c.args.rank c.in-Waits.call c.operation_of.result ranks.items ((c.in-Waits.ensures (Waits c.in-Waits.call)).0 refl) c.operation_of.ensures needs) c.needed_by.ensures.ranks

pub returns-in_default-clause-ranks : goal.returns-in_default-clause-ranks
returns-in_default-clause-ranks c =
    waits_for_nobody c.args.program.now c.args.state.now c.args.rank c.new.result.items c.new.ensures.items (λ call waits. c.in_default.not-Waits call ((c.standing_of.ensures (Waits call)).1 waits))
