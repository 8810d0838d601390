use Rattle.command_line.proofs.commands.with_unrolling.Goals as goal

pub returns : goal.returns
returns c = λ app whole.
    let one = c.with-whole.ensures _ _ whole c.several_ranks.ensures in
    let two = c.with-whole-2.ensures _ _ one c.set.ensures in
    c.with.ensures _ _ two c.collectives.ensures
