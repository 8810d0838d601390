use Rattle.std.proofs.Common.{List, Option, IfOk, sym, subst}
use Rattle.std.specs.Prelude.{IfSome}
use Rattle.semantics.specs.declared.state.Step.{Step}
use Rattle.semantics.specs.RunEnds.{IsFinishedRun}
use Rattle.htmlpage.specs.Page.{IsPage}
use Rattle.reports.specs.Explanations.{Says}
use Rattle.reports.proofs.Drawn.{ends_well, page_drawn}
use Rattle.reports.proofs.telling.explained_page.Goals as goal

pub page-requires-clause-well : goal.page-requires-clause-well
page-requires-clause-well g c =
    subst (λ (well : Option (List Step)). IfSome well (IsFinishedRun c.args.program.now)) (sym c.well_steps-well.ensures) (ends_well c.args.program.now c.in_ok-frequency.frequency c.in_ok-frequency.ensures)

pub returns : goal.returns
returns g c =
    let p = c.args.program.now in
    page_drawn c.page.result c.args.text.now c.args.source.now p c.args.steps.now c.in_ok-frequency.frequency c.deref.result.now c.in_ok-frequency.ensures
    (subst (Says c.args.text.now p c.in_ok-frequency.frequency) (sym c.deref.ensures.value) c.in_ok-words.ensures)
    (subst (λ (well : Option (List Step)). IfOk c.page.result (λ page. IsPage c.args.text.now c.args.source.now p c.args.steps.now well c.deref.result.now page.items)) c.well_steps-well.ensures c.page.ensures)
