-- The text and the status are those of the explanation.
use Rattle.std.proofs.Common.{List, ℕ, ◌∙◌, inl, inr, refl, subst}
use Rattle.session.specs.Explaining.{IsFoundPage}
use Rattle.session.proofs.explained.found_page.Goals as goal

pub returns-in-NoDeadlock : goal.returns-in-NoDeadlock
returns-in-NoDeadlock g c =
    subst (λ (e : List ℕ). IsFoundPage c.args.form c.args.program.now e c.in-NoDeadlock.text.items c.status-status.result) (c.deref.ensures.value ∙ c.in_ok-evidence.ensures)
    (inl (c.in-NoDeadlock.text, c.in-NoDeadlock.ensures, refl, c.status-status.ensures))

pub returns-in-Deadlock : goal.returns-in-Deadlock
returns-in-Deadlock g c =
    subst (λ (e : List ℕ). IsFoundPage c.args.form c.args.program.now e c.in-Deadlock.text.items c.status-status-in-Deadlock.result) (c.deref.ensures.value ∙ c.in_ok-evidence.ensures)
    (inr (c.in-Deadlock.text, c.in-Deadlock.ensures, refl, c.status-status-in-Deadlock.ensures))
