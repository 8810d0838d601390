use Rattle.command_line.proofs.commands.unroll_command.Goals as goal

pub returns : goal.returns
returns c =
    let one = c.with-command.ensures _ _ c.named-command.ensures c.spmd.ensures in
    let two = c.with-command-2.ensures _ _ one c.ranks.ensures in
    let three = c.with-command-3.ensures _ _ two c.set.ensures in
    let four = c.with-command-4.ensures _ _ three c.collectives.ensures in
    let five = c.with-command-5.ensures _ _ four c.unrolled.ensures in
    c.with.ensures _ _ five c.written_map.ensures
