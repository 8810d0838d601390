use Rattle.command_line.proofs.commands.phases_command.Goals as goal

pub returns : goal.returns
returns c =
    let one = c.with-command.ensures _ _ c.named-command.ensures c.program.ensures in
    c.with.ensures _ _ one c.phases_folder.ensures
