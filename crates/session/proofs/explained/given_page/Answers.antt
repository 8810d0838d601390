-- The explanation is that of the whole texts, and the page is the explanation's.
use Rattle.std.proofs.Common.{subst, sym}
use Rattle.session.specs.parts.Texts.{AreAlikeEvidences, AreAlikePrograms, StandsFor}
use Rattle.session.proofs.WholeAnswers.{whole_explanation}
use Rattle.session.proofs.explained.given_page.Goals as goal

pub returns-clause-page : goal.returns-clause-page
returns-clause-page g c =
    let held = g.F.FileSet.held c.args.files.now in
    let x = c.explain_evidence-explained.result in
    let (program, all_p, alike_p) = subst (StandsFor AreAlikePrograms (held c.args.program.now)) (sym c.deref.ensures.value) c.in_ok-program.ensures.program in
    let (evidence, all_e, alike_e) = subst (StandsFor AreAlikeEvidences (held c.args.evidence.now)) (sym c.deref-2.ensures.value) c.in_ok-program.ensures.evidence in (
      program,
      evidence,
      x,
      all_p,
      all_e,
      whole_explanation c.args.form c.deref.result.now program c.deref-2.result.now evidence x alike_p alike_e c.explain_evidence-explained.ensures,
      c.in_ok-explanation_page.ensures,
    )
