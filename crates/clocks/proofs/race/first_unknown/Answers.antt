use Rattle.std.proofs.Common.{sym}
use Rattle.clocks.proofs.race.first_unknown.Goals as goal

pub returns-in-Some : goal.returns-in-Some
returns-in-Some c = λ numbering groups knows covers are. c.first_unknown.ensures numbering (knows c.args.send) groups covers (are c.args.send c.in-Some.count (sym c.in-Some.ensures))
