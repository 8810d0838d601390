use Rattle.leastrun.proofs.Entries.{on_none}
use Rattle.leastrun.proofs.Seeking.{no_mate}
use Rattle.leastrun.proofs.lookup.mate_of.Goals as goal

pub returns-in_default-finder_for-clause-none : goal.returns-in_default-finder_for-clause-none
returns-in_default-finder_for-clause-none c =
    on_none c.send_for.result _ _ (no_mate c.args.program.now c.args.state.now c.args.call c.in_default-finder_for.ensures.none) c.send_for.ensures.none
