use Rattle.std.proofs.Common.{◌≡◌, ◌+◌, arith}
use Rattle.choices.proofs.Lines.{past_more, rest_within, around_next}
use Rattle.choices.proofs.pinning.around.Goals as goal

pub loop-turn-preserved : goal.loop-turn-preserved
loop-turn-preserved c = past_more c.args.text.now c.loop-turn._turn c.loop-turn.rest.now c.in-Some._line.now c.in-Some.next.now c.loop-turn.invariant c.in-Some.ensures.some

pub slice_bounds-result-count : goal.slice_bounds-result-count
slice_bounds-result-count c = rest_within c.args.text.now c.loop-turn._turn c.loop-turn.rest.now c.loop-turn.invariant

pub returns : goal.returns
returns c =
    let at : c.args.number ≡ c.loop-turn._turn + 1 = omega arith in
    around_next c.args.text.now c.args.number c.loop-turn._turn c.loop-turn.rest.now c.in-Some-next_line.old.now c.in-Some-next_line.after.now c.loop-turn.invariant c.in-Some-next_line.ensures.some at
