use Rattle.command_line.proofs.commands.trim_command.Goals as goal

pub returns : goal.returns
returns c =
    let one = c.with-command.ensures _ _ c.named-command.ensures c.evidence.ensures in
    let two = c.with-command-2.ensures _ _ one c.trimmed.ensures in
    c.with.ensures _ _ two c.json.ensures
