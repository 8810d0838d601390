use Rattle.leastrun.proofs.Entries.{on_some}
use Rattle.leastrun.proofs.Openings.{find_next}
use Rattle.leastrun.proofs.walk.next_step.Goals as goal

pub returns-then-is_some-clause-settled : goal.returns-then-is_some-clause-settled
returns-then-is_some-clause-settled c = on_some c.find_of-find.result _ _ (λ step find rank buffered is. absurd (find.no_issue rank buffered is)) c.find_of-find.ensures.some

pub returns-then-is_some-clause-some : goal.returns-then-is_some-clause-some
returns-then-is_some-clause-some c = on_some c.find_of-find.result _ _ (λ step find. find_next c.args.buffering c.args.program.now c.args.state.now step find) c.find_of-find.ensures.some
