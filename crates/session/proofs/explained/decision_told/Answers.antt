-- The page is that of the steps that were decided.
use Rattle.std.proofs.Common.{◌≡◌, ap, IfOk, List, ℕ, Result, Ok, Err, subst, sym}
use Rattle.std.specs.Global.{Vec}
use Rattle.std.specs.declared.alloc.AllocError.{AllocError}
use Rattle.semantics.specs.declared.state.Step.{Step}
use Rattle.deciding.specs.declared.decision.Decision.{Decision}
use Rattle.deciding.specs.declared.decision.Decision.TheVariants as decisions
use Rattle.deciding.specs.declared.texts.Undecided.{Undecided}
use Rattle.options.specs.declared.form.Form.{Form}
use Rattle.reports.specs.Explanations.{IsRunDrawn}
use Rattle.session.specs.Explaining.{IsDecisionExplained}
use Rattle.session.specs.declared.page.Page.{Page}
use Rattle.session.proofs.explained.decision_told.Goals as goal

ran : (r : Result Page AllocError) (budget : ℕ) (form : Form) (text : List ℕ) (steps : Vec Step) (d : Result Decision Undecided) (given : List Step)
    → d ≡ Ok (decisions.Deadlock steps) → given ≡ steps.items → IfOk r (λ page. IsRunDrawn form text given page.text.items) → IfOk r (λ page. page.status ≡ 1)
    → IfOk r (λ page. IsDecisionExplained budget form text d page.text.items page.status)
ran (Ok page) budget form text steps d given is same told one =
    subst (λ (x : Result Decision Undecided). IsDecisionExplained budget form text x page.text.items page.status) (sym is)
    (subst (λ (s : List Step). IsRunDrawn form text s page.text.items) same told, one)
ran (Err e) budget form text steps d given is same told one = told

pub returns-in-Deadlock : goal.returns-in-Deadlock
returns-in-Deadlock g c =
    ran c.run_page.result c.args.options.budget c.args.form c.args.text.now c.in-Deadlock.steps (Ok c.args.decision.now) c.deref.result.now
    (ap Ok c.in-Deadlock.is) c.deref.ensures.value c.run_page.ensures.told c.run_page.ensures.status
