use Rattle.leastrun.proofs.Opening.{none_open_at_first}
use Rattle.leastrun.proofs.walk.buffered_run.Goals as goal

pub go_on-requires-clause-none_open : goal.go_on-requires-clause-none_open
go_on-requires-clause-none_open c = none_open_at_first c.args.program.now c.in_ok-state.state c.calls.ensures.kept c.in_ok-state.ensures.opening
