use Rattle.prover.proofs.Walks.{nothing_enabled, if_none, on_none}
use Rattle.prover.proofs.walk.next_step.Goals as goal

pub returns-clause-none : goal.returns-clause-none
returns-clause-none c =
    on_none c.in_ok-seeing-2.seeing _ _
    (nothing_enabled c.args.program.now c.args.state.now
    (if_none c.in_ok-step.step _ c.is_some-2.result c.is_some-2.ensures c.if-is_some-2.false c.in_ok-step.ensures.none))
    c.in_ok-seeing-2.ensures.none
