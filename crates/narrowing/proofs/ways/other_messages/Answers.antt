use Rattle.std.proofs.Common.{◌≤◌, List, length, subst}
use Rattle.callorder.specs.declared.calls.Call.{Call}
use Rattle.narrowing.proofs.Tested.{all_other}
use Rattle.narrowing.proofs.ways.other_messages.Goals as goal

pub loop-send-preserved : goal.loop-send-preserved
loop-send-preserved c = c.in_ok-put_other.ensures c.loop-send.invariant

pub returns : goal.returns
returns c =
    all_other c.args.program.now c.args.call c.args.taken c.loop-send.send c.loop-send.others.items
    (subst (λ (l : List Call). length l ≤ c.loop-send.send) c.calls-send-end.ensures.value c.loop-send-test.false) c.loop-send.invariant
