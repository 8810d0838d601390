use Rattle.clocks.proofs.rows.tells.Goals as goal

pub returns-in-Some : goal.returns-in-Some
returns-in-Some c = λ tells known is. c.reaches.ensures tells known (c.count_in.ensures c.args.columns.now known is)
