use Rattle.command_line.proofs.commands.with_search.Goals as goal

pub returns : goal.returns
returns c = λ app whole.
    let one = c.with-whole.ensures _ _ whole c.workers.ensures in
    let two = c.with-whole-2.ensures _ _ one c.depth.ensures in
    c.with.ensures _ _ two c.budget.ensures
