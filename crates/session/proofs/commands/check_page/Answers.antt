-- The verdict is that on the whole texts.
use Rattle.std.proofs.Common.{subst, sym}
use Rattle.session.specs.Lines.{IsLine}
use Rattle.session.specs.parts.Texts.{AreAlikeEvidences, AreAlikePrograms, StandsFor}
use Rattle.session.specs.declared.told.Outcome.{Outcome}
use Rattle.session.proofs.WholeTexts.{whole_verdict}
use Rattle.session.proofs.commands.check_page.Goals as goal

pub returns-clause-page : goal.returns-clause-page
returns-clause-page g c =
    let held = g.F.FileSet.held c.args.files.now in
    let page = c.in_ok-page_of.field-0 in
    let (program, all_p, alike_p) = subst (StandsFor AreAlikePrograms (held c.args.asked.program.now)) (sym c.deref.ensures.value) c.in_ok-program.ensures.program in
    let (evidence, all_e, alike_e) = subst (StandsFor AreAlikeEvidences (held c.args.asked.evidence.now)) (sym c.deref-2.ensures.value) c.in_ok-program.ensures.evidence in (
      program,
      evidence,
      c.verdict_in.result,
      all_p,
      all_e,
      whole_verdict c.deref.result.now program c.deref-2.result.now evidence c.verdict_in.result alike_p alike_e c.verdict_in.ensures.is.judges,
      subst (λ (t : Outcome). IsLine t c.args.asked.json page.text.items page.status) c.from-told.ensures c.in_ok-page_of.ensures,
    )
