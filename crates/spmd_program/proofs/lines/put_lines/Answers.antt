use Rattle.std.proofs.Common.{◌+◌, ◌-◌, List, length, take, drop}
use Rattle.std.proofs.lemmas.List.{drop_all}
use Rattle.unroll.specs.declared.call.Placed.{Placed}
use Rattle.spmd_program.proofs.Written.{all_begun, none_begun, one_begun, to_end}
use Rattle.spmd_program.proofs.lines.put_lines.Goals as goal

pub loop-place-init : goal.loop-place-init
loop-place-init c = none_begun c.args.names.now c.args.calls.now c.args.out.now.items

pub loop-place-preserved : goal.loop-place-preserved
loop-place-preserved c =
    let calls : List Placed = c.args.calls.now in
    one_begun c.args.names.now calls (take (length calls - (c.loop-place.place + 1)) (drop (c.loop-place.place + 1) calls)) c.loop-place.place _
    c.args.out.now.items c.loop-place.out.items c.put_call.new.out.items
    c.loop-place-test.true (to_end calls (c.loop-place.place + 1)) c.loop-place.invariant c.in_ok-put_call.ensures

pub returns : goal.returns
returns c =
    all_begun c.args.names.now c.args.calls.now c.loop-place.place c.args.out.now.items c.loop-place.out.items
    (drop_all c.loop-place.place c.args.calls.now c.loop-place-test.false) c.loop-place.invariant
