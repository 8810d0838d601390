use Rattle.reports.proofs.steps.replay.Goals as goal

pub returns-in-Ok-text_of : goal.returns-in-Ok-text_of
returns-in-Ok-text_of c =
    let shown = c.in-Ok.ensures.shown in (
      record { p = c.in-Ok.run'.program; steps = c.in-Ok.run'.schedule; text = shown.text; schedule = shown.schedule; stuck = shown.stuck },
      c.in-Ok-text_of.ensures,
    )
