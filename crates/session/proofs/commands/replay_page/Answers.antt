-- The replay is that of the whole texts.
use Rattle.std.proofs.Common.{refl, sym, subst}
use Rattle.reports.specs.declared.steps.Replayed.TheVariants as replays
use Rattle.session.specs.parts.Texts.{AreAlikeEvidences, AreAlikePrograms, StandsFor}
use Rattle.session.proofs.WholeAnswers.{whole_replay}
use Rattle.session.proofs.commands.replay_page.Goals as goal

pub returns-in-Stuck-clause-page : goal.returns-in-Stuck-clause-page
returns-in-Stuck-clause-page g c =
    let held = g.F.FileSet.held c.args.files.now in
    let r = replays.Stuck c.in-Stuck.text in
    let (program, all_p, alike_p) = subst (StandsFor AreAlikePrograms (held c.args.asked.program.now)) (sym c.deref.ensures.value) c.in_ok-program.ensures.program in
    let (evidence, all_e, alike_e) = subst (StandsFor AreAlikeEvidences (held c.args.asked.evidence.now)) (sym c.deref-2.ensures.value) c.in_ok-program.ensures.evidence in (
      program,
      evidence,
      r,
      all_p,
      all_e,
      whole_replay c.args.asked.lines c.deref.result.now program c.deref-2.result.now evidence r alike_p alike_e c.in-Stuck.ensures,
      (refl, c.status-status.ensures),
    )

pub returns-in-Refused-clause-page : goal.returns-in-Refused-clause-page
returns-in-Refused-clause-page g c =
    let held = g.F.FileSet.held c.args.files.now in
    let r = replays.Refused c.in-Refused.reason in
    let (program, all_p, alike_p) = subst (StandsFor AreAlikePrograms (held c.args.asked.program.now)) (sym c.deref.ensures.value) c.in_ok-program.ensures.program in
    let (evidence, all_e, alike_e) = subst (StandsFor AreAlikeEvidences (held c.args.asked.evidence.now)) (sym c.deref-2.ensures.value) c.in_ok-program.ensures.evidence in (
      program,
      evidence,
      r,
      all_p,
      all_e,
      whole_replay c.args.asked.lines c.deref.result.now program c.deref-2.result.now evidence r alike_p alike_e c.in-Refused.ensures,
      c.in_ok-page_of-in-Refused.ensures,
    )

pub returns-clause-page : goal.returns-clause-page
returns-clause-page g c =
    let held = g.F.FileSet.held c.args.files.now in
    let r = replays.NotASchedule in
    let (program, all_p, alike_p) = subst (StandsFor AreAlikePrograms (held c.args.asked.program.now)) (sym c.deref.ensures.value) c.in_ok-program.ensures.program in
    let (evidence, all_e, alike_e) = subst (StandsFor AreAlikeEvidences (held c.args.asked.evidence.now)) (sym c.deref-2.ensures.value) c.in_ok-program.ensures.evidence in (
      program,
      evidence,
      r,
      all_p,
      all_e,
      whole_replay c.args.asked.lines c.deref.result.now program c.deref-2.result.now evidence r alike_p alike_e c.in-NotASchedule.ensures,
      c.in_ok-page_of-in-NotASchedule.ensures,
    )
