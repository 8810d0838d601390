-- The text is that of the run which the evidence shows.
use Rattle.reports.proofs.explained.deadlock.Goals as goal

pub returns-in-Ok : goal.returns-in-Ok
returns-in-Ok g c =
    let are = c.requires in
    let run = c.args.run.now in (
      record { p = run.program; steps = run.schedule; text = are.text; schedule = are.schedule; stuck = are.stuck },
      (run.source, are.says, c.in-Ok.ensures),
    )
