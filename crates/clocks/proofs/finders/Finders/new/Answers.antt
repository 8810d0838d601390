use Rattle.std.proofs.Common.{ap, length, arith}
use Rattle.clocks.specs.parts.Clocks.{block_of}
use Rattle.clocks.proofs.Listed.{all_listed, none_listed}
use Rattle.clocks.proofs.finders.Finders.new.Goals as goal

pub loop-call-init : goal.loop-call-init
loop-call-init c = none_listed c.args.program.now (block_of c.args.names.now) _ c.in_ok-groups.ensures

pub returns : goal.returns
returns c = all_listed c.args.program.now (block_of c.args.names.now) c.loop-call.call c.loop-call.groups.items (let size = ap length c.calls-call-end.ensures.value in let past = c.loop-call-test.false in omega arith) c.loop-call.invariant
