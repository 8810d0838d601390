use Rattle.std.proofs.Common.{subst, sym}
use Rattle.reports.specs.Asking.{TellsAsked}
use Rattle.reports.proofs.Drawn.{words_say}
use Rattle.reports.proofs.telling.words_of.Goals as goal

pub returns : goal.returns
returns c =
    words_say c.explanation.result c.args.text.now c.args.program.now c.args.frequency.now c.args.asked.now c.as_str.result.now c.requires.asked
    (subst (TellsAsked c.args.asked.now) (sym c.as_str.ensures.value) c.in_ok-decided.ensures) c.explanation.ensures
