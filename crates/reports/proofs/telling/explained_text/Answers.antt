use Rattle.reports.proofs.Drawn.{says_how_often}
use Rattle.reports.proofs.telling.explained_text.Goals as goal

pub returns : goal.returns
returns g c =
    says_how_often c.words_of.result c.args.text.now c.args.program.now c.in_ok-frequency.frequency c.in_ok-frequency.ensures c.words_of.ensures
