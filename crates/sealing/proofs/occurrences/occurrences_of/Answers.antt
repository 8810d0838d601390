use Rattle.std.proofs.Common.{◌+◌, List, Option, take, sym, subst}
use Rattle.std.specs.HashMap.{get}
use Rattle.sealing.specs.declared.occurrences.Occurrence.{Occurrence}
use Rattle.sealing.specs.parts.Sides.{same_side, AreOccurrences}
use Rattle.sealing.proofs.Numbered.{counts_more, occurrences_more}
use Rattle.sealing.proofs.occurrences.occurrences_of.Goals as goal

pub loop-call-preserved : goal.loop-call-preserved
loop-call-preserved c =
    let calls = c.args.calls.now in
    let n = c.loop-call.call-index in
    let told = c.in_ok-occurrence.ensures (take n calls) c.loop-call.invariant.counted in
    record {
      counted = counts_more calls n _ (get same_side c.occurrence_of.new.counts) c.loop-call-test.true told.1;
      listed = subst (λ (z : List (Option Occurrence)). AreOccurrences calls (n + 1) z) (sym c.in_ok-push.ensures.items)
          (occurrences_more calls n _ c.loop-call.occurrences.items c.in_ok-occurrence.occurrence c.loop-call-test.true told.0 c.loop-call.invariant.listed);
    }
