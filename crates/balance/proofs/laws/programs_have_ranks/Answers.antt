use Rattle.balance.proofs.laws.programs_have_ranks.Goals as goal

pub returns : goal.returns
returns c = λ l p program c call there. (program.in_range c call there).own
