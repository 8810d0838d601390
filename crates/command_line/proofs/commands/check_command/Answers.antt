use Rattle.command_line.proofs.commands.check_command.Goals as goal

pub returns : goal.returns
returns c =
    let one = c.with-command.ensures _ _ c.named-command.ensures c.program.ensures in
    let two = c.with-command-2.ensures _ _ one c.evidence.ensures in
    let three = c.with-command-3.ensures _ _ two c.pieces.ensures in
    let four = c.with-command-4.ensures _ _ three c.json.ensures in
    c.with.ensures _ _ four c.color.ensures
