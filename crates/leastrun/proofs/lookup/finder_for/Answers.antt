use Rattle.std.proofs.Common.{◌≡◌, ◌<◌, ◌+◌, Some, slice_get, length, sym, ap, subst, ◌∙◌, arith}
use Rattle.std.proofs.lemmas.Option.{slice_get-get_or}
use Rattle.leastrun.specs.declared.slot.PatternForm.{PatternForm}
use Rattle.leastrun.proofs.Seeking.{IsBest, best_more, least_finder, no_finder}
use Rattle.leastrun.proofs.lookup.finder_for.Goals as goal

pub loop-place-preserved : goal.loop-place-preserved
loop-place-preserved c =
    let forms = c.args.tables.now.forms.items in
    let place = c.loop-place.place in
    let within : place < length forms = grind (arith, c.loop-place-test.true, c.len-place-end.ensures) in
    let here : slice_get forms place ≡ Some c.index.result.now = slice_get-get_or forms place c.index.result.now within ∙ ap (λ (z : PatternForm). Some z) (sym c.index.ensures) in
    subst (IsBest c.args.program.now c.args.state.now forms c.args.tables.now.finders c.args.known.now c.args.call (place + 1)) (sym c.lesser-best.ensures)
    (best_more c.args.program.now c.args.state.now forms c.args.tables.now.finders c.args.known.now c.args.call place c.in-Some.slot c.index.result.now
    c.requires.known here (sym c.send_slot.ensures ∙ c.in-Some.is) c.loop-place.best c.mate_in.result c.loop-place.invariant c.mate_in.ensures.some c.mate_in.ensures.none)

pub returns-clause-some : goal.returns-clause-some
returns-clause-some c =
    least_finder c.args.program.now c.args.state.now c.args.tables.now c.args.call c.loop-place.place c.args.known.now c.loop-place.best c.requires.kept c.requires.known (grind (arith, c.loop-place-test.false, c.len-place-end.ensures)) c.loop-place.invariant

pub returns-clause-none : goal.returns-clause-none
returns-clause-none c =
    no_finder c.args.program.now c.args.state.now c.args.tables.now c.args.call c.loop-place.place c.args.known.now c.loop-place.best c.requires.kept c.requires.known (grind (arith, c.loop-place-test.false, c.len-place-end.ensures)) c.loop-place.invariant
