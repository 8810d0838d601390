use Rattle.std.proofs.Common.{IfOk, List, ℕ, ap, ◌∙◌, subst}
use Rattle.calltext.specs.declared.call.Policy.{Policy}
use Rattle.explain.specs.Often.{TellsBelow, often_line}
use Rattle.explain.proofs.text.explanation.Goals as goal

pub returns : goal.returns
returns c =
    subst (λ (line : List ℕ). IfOk c.below_line.result (λ told. TellsBelow line c.args.decided.now told.items))
    (c.often_line-line.ensures ∙ ap (λ (policy : Policy). often_line policy c.args.frequency.now) c.policy.ensures) c.below_line.ensures
