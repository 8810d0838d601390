use Rattle.command_line.proofs.commands.shrink_command.Goals as goal

pub returns : goal.returns
returns c =
    let one = c.with-command.ensures _ _ c.named-command.ensures c.program.ensures in
    let two = c.with-command-2.ensures _ _ one c.smaller.ensures in
    c.with.ensures _ _ two c.smaller_map.ensures
