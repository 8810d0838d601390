use Rattle.std.proofs.Common.{arith}
use Rattle.std.proofs.lemmas.Option.{slice_get-get_or}
use Rattle.leastrun.proofs.Waitings.{none_posted, posted_more, kept_posted_all}
use Rattle.leastrun.proofs.tables.Tables.of.Goals as goal

pub loop-place-init : goal.loop-place-init
loop-place-init c = none_posted c.args.program.now c.args.state.now c.args.calls.now c.in_ok-tables.tables c.calls-calls.ensures.kept c.in_ok-tables.ensures

pub loop-place-preserved : goal.loop-place-preserved
loop-place-preserved c =
    posted_more c.args.program.now c.args.state.now c.args.calls.now c.loop-place.place c.loop-place.tables c.add.new.self _ c.requires c.loop-place.invariant
    (slice_get-get_or c.args.calls.now c.loop-place.place _ c.loop-place-test.true) c.in_ok-add.ensures

pub returns : goal.returns
returns c = kept_posted_all c.args.program.now c.args.state.now c.args.calls.now c.loop-place.place c.loop-place.tables c.requires (omega (arith, c.loop-place-test.false)) c.loop-place.invariant
