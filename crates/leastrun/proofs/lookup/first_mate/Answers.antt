use Rattle.std.proofs.Common.{sym, ap, ◌∙◌, arith}
use Rattle.leastrun.specs.parts.Waiting.{is_mate}
use Rattle.leastrun.proofs.Entries.{one_more, at_end}
use Rattle.leastrun.proofs.lookup.first_mate.Goals as goal

pub loop-place-preserved : goal.loop-place-preserved
loop-place-preserved c =
    one_more (is_mate c.args.program.now c.args.state.now c.args.call) c.args.row.now.items c.loop-place.place _ c.loop-place.invariant (ap (is_mate c.args.program.now c.args.state.now c.args.call) (sym c.index-other.ensures) ∙ sym c.is_mate.ensures ∙ c.if-is_mate.false)

pub returns-clause-none : goal.returns-clause-none
returns-clause-none c =
    at_end (is_mate c.args.program.now c.args.state.now c.args.call) c.args.row.now.items c.loop-place.place (grind (arith, c.loop-place-test.false, c.len-place-end.ensures)) c.loop-place.invariant
