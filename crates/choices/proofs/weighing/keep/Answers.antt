use Rattle.std.proofs.Common.{sym, subst}
use Rattle.std.proofs.lemmas.List.Elements.{All-push}
use Rattle.choices.specs.Weights.{IsChoiceOf}
use Rattle.choices.specs.parts.Weights.{AreChoicesOf}
use Rattle.choices.proofs.weighing.keep.Goals as goal

pub returns-in_ok-push : goal.returns-in_ok-push
returns-in_ok-push c = λ (all : AreChoicesOf c.args.program.now c.args.found.now.items).
    subst (AreChoicesOf c.args.program.now) (sym c.in_ok-push.ensures.items) (All-push (IsChoiceOf c.args.program.now) c.args.found.now.items c.args.choice all c.requires)
