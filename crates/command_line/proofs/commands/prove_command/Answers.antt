use Rattle.command_line.proofs.commands.prove_command.Goals as goal

pub returns : goal.returns
returns c =
    let one = c.with-command.ensures _ _ c.named-command.ensures c.program.ensures in
    let two = c.with-command-2.ensures _ _ one c.out.ensures in
    let three = c.with_search-command.ensures _ two in
    let four = c.with-command-3.ensures _ _ three c.progress.ensures in
    let five = c.with-command-4.ensures _ _ four c.json.ensures in
    c.with.ensures _ _ five c.color.ensures
