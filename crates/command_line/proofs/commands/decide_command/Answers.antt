use Rattle.command_line.proofs.commands.decide_command.Goals as goal

pub returns : goal.returns
returns c =
    let one = c.with-command.ensures _ _ c.named-command.ensures c.programs.ensures in
    let two = c.with-command-2.ensures _ _ one c.schedule.ensures in
    let three = c.with-command-3.ensures _ _ two c.stages.ensures in
    let four = c.with-command-4.ensures _ _ three c.phases.ensures in
    let five = c.with-command-5.ensures _ _ four c.json.ensures in
    let six = c.with-command-6.ensures _ _ five c.junit.ensures in
    let seven = c.with-command-7.ensures _ _ six c.color.ensures in
    c.with_unrolling.ensures _ seven
