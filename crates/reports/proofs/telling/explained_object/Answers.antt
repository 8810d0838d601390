use Rattle.reports.proofs.Drawn.{object_drawn}
use Rattle.reports.proofs.telling.explained_object.Goals as goal

pub returns : goal.returns
returns g c =
    object_drawn c.object_text.result c.args.text.now c.args.source.now c.args.program.now c.args.steps.now c.in_ok-frequency.frequency c.args.asked.now _ c.in_ok-frequency.ensures
    c.requires.asked c.in_ok-deciders.ensures c.object_text.ensures
