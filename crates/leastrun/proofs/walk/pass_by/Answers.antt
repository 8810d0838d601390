use Rattle.leastrun.proofs.walk.pass_by.Goals as goal

pub returns-in-Match : goal.returns-in-Match
returns-in-Match c fresh kept = c.pass-in-Match.ensures fresh (c.pass.ensures fresh kept)
