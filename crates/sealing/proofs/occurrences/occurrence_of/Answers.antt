use Rattle.std.proofs.Common.{sym}
use Rattle.std.specs.HashMap.{get}
use Rattle.sealing.specs.parts.Sides.{same_side}
use Rattle.sealing.proofs.Numbered.{side_counted}
use Rattle.sealing.proofs.occurrences.occurrence_of.Goals as goal

pub returns-in_ok-index-in-Some : goal.returns-in_ok-index-in-Some
returns-in_ok-index-in-Some c = λ calls are.
    side_counted calls c.args.call.now (get same_side c.args.counts.now) (get same_side c.count.new.counts) c.in-Some.side c.in_ok-index-in-Some.index
    (sym c.in-Some.ensures) c.in_ok-index-in-Some.ensures.before c.in_ok-index-in-Some.ensures.counted are
