-- The page tells what is decided of the whole program.
use Rattle.std.proofs.Common.{◌∙◌, List, ℕ, subst, sym}
use Rattle.files.specs.Contents.{AreAll}
use Rattle.session.specs.Explaining.{IsDecisionExplained}
use Rattle.session.proofs.explained.decided_first.Goals as goal

pub returns-clause-page : goal.returns-clause-page
returns-clause-page g c =
    let held = g.F.FileSet.held c.args.files.now in
    let page = c.in_ok-decision_explained.field-0 in
    let text = c.deref.result.now in (
      text,
      c.decide-decided.result,
      subst (AreAll (held c.args.program.now)) (sym c.deref.ensures.value) c.in_ok-text.ensures.bytes,
      c.decide-decided.ensures,
      subst (λ (p : List ℕ). IsDecisionExplained c.args.options.budget c.args.form p c.decide-decided.result page.text.items page.status)
          (c.deref-2.ensures.value ∙ sym c.deref.ensures.value) c.in_ok-decision_explained.ensures,
    )
