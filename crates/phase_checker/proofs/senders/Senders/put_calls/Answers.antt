use Rattle.std.proofs.Common.{arith}
use Rattle.phase_checker.specs.parts.Early.{place_sent}
use Rattle.phase_checker.proofs.Sent.{raised_by_call}
use Rattle.phase_checker.proofs.senders.Senders.put_calls.Goals as goal

pub loop-call-preserved : goal.loop-call-preserved
loop-call-preserved c = λ key.
    raised_by_call c.args.calls.now c.loop-call.call-index _ key (place_sent c.args.self.now key) (place_sent c.loop-call.self key) (place_sent c.put_call.new.self key) c.args.place (omega arith)
    (c.loop-call.invariant key) (c.in_ok-put_call.ensures key)
