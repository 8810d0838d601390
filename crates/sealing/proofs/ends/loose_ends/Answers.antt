use Rattle.std.proofs.Common.{◌≤◌, List, length, ap, arith}
use Rattle.callorder.specs.declared.calls.Call.{Call}
use Rattle.sealing.proofs.Untold.{all_loose}
use Rattle.sealing.proofs.ends.loose_ends.Goals as goal

pub returns : goal.returns
returns c =
    let same = ap (λ (z : List Call). length z) c.calls-place-end.ensures.value in
    let past : length c.args.program.now.calls ≤ c.loop-place.place = omega (arith, same, c.loop-place-test.false) in
    all_loose c.args.program.now c.loop-place.place c.loop-place.loose.items past c.loop-place.invariant
