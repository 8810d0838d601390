use Rattle.std.proofs.Common.{sym, ◌∙◌, arith}
use Rattle.phases.proofs.ManyPhases.{programs_are_well_formed}
use Rattle.phases.proofs.Dealt.{way_in, one_on, at_the_end}
use Rattle.phases.proofs.dealing.end_of.Goals as goal

pub loop-end-init : goal.loop-end-init
loop-end-init c = way_in c.args.program.now c.args.rank c.args.place (programs_are_well_formed _ c.args.program.now c.calls-calls.ensures.kept) c.requires

pub loop-end-preserved : goal.loop-end-preserved
loop-end-preserved c =
    one_on c.args.program.now c.args.rank c.loop-end.end (programs_are_well_formed _ c.args.program.now c.calls-calls.ensures.kept) c.loop-end.invariant (sym c.is_of_rank.ensures ∙ c.loop-end-test.true)

pub loop-end-smaller : goal.loop-end-smaller
loop-end-smaller c = let more = (loop-end-preserved c).high in omega (arith, more)

pub returns : goal.returns
returns c =
    at_the_end c.args.program.now c.args.rank c.loop-end.end (programs_are_well_formed _ c.args.program.now c.calls-calls.ensures.kept) c.loop-end.invariant (sym c.is_of_rank.ensures ∙ c.loop-end-test.false)
