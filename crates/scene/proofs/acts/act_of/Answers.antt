use Rattle.std.proofs.Common.{ℕ, Option, sym, ap, ◌∙◌}
use Rattle.std.specs.Option.{unwrap_or}
use Rattle.std.proofs.lemmas.Option.{unwrap_or-slice_get}
use Rattle.scene.specs.declared.acts.Act.TheVariants as act
use Rattle.scene.specs.Labels.{act_of}
use Rattle.scene.proofs.acts.act_of.Goals as goal

pub returns-in-Issue : goal.returns-in-Issue
returns-in-Issue c =
    ap (λ (k : ℕ). act.Issue k c.in-Issue.buffered)
    (c.unwrap_or-call.ensures ∙ ap (λ (o : Option ℕ). unwrap_or o 0) c.next_of.ensures ∙ unwrap_or-slice_get c.args.state.now.next c.in-Issue.rank 0)
    ∙ ap (act_of c.args.state.now) (sym c.in-Issue.is)
