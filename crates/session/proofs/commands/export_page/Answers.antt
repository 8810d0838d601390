-- Where there is no deadlock, the proof is written, or its file failed.
use Rattle.std.proofs.Common.{◌≡◌, ◌≢◌, ◌∙◌, IfErr, IfOk, OnOk, Bool, false, ℕ, List, Result, Ok, Err, Some, inr, refl, sym, subst}
use Rattle.std.specs.Prelude.{Option}
use Rattle.std.proofs.lemmas.Option.{same_Some}
use Rattle.files.specs.Contents.{AreAll}
use Rattle.checker.specs.declared.reason.Verdict.{Verdict}
use Rattle.checker.specs.declared.reason.Verdict.TheVariants as verdicts
use Rattle.checker.proofs.Reasons.{refuted_refute}
use Rattle.reports.specs.Exports.{Exports}
use Rattle.session.specs.Lines.{IsLine}
use Rattle.session.specs.parts.Pages.{StopsBy}
use Rattle.session.specs.Pages.{IsExportFile, IsExported, IsExportedTo, IsWritten}
use Rattle.session.specs.parts.Texts.{AreAlikeEvidences, AreAlikePrograms, StandsFor}
use Rattle.session.specs.declared.commands.Stop.{Stop}
use Rattle.session.specs.declared.commands.Stop.TheVariants as stop
use Rattle.session.specs.declared.page.Page.{Page}
use Rattle.session.specs.declared.told.Outcome.{Outcome}
use Rattle.session.specs.declared.told.Outcome.TheVariants as told
use Rattle.session.proofs.WholeAnswers.{whole_proof}
use Rattle.session.proofs.WholeTexts.{whole_verdict}
use Rattle.session.proofs.commands.export_page.Goals as goal

-- the page of a proof that was written
page_written : (tells : Bool) (old between new : List ℕ → Option (List ℕ)) (program_path evidence_path file program evidence proof : List ℕ) (page : Result Page Stop)
    → AreAll (old program_path) program → AreAll (old evidence_path) evidence → Exports program evidence proof
    → OnOk page (IsWritten tells between new (Some file) proof) → IfOk page (λ p. IsLine told.NoDeadlock false p.text.items p.status)
    → IfOk page (λ p. IsExported tells old new program_path evidence_path file p.text.items p.status)
page_written tells old between new program_path evidence_path file program evidence proof (Ok p) all_p all_e exports written line = (
  program,
  evidence,
  verdicts.NoDeadlock,
  all_p,
  all_e,
  refuted_refute program evidence exports.f exports.claim exports.refuted,
  (proof, exports, written),
  line,
)
page_written tells old between new program_path evidence_path file program evidence proof (Err s) all_p all_e exports written line = line

-- a file that failed after the proof was made
stops_written : (reads : List ℕ → Bool) (old between new : List ℕ → Option (List ℕ)) (program_path evidence_path file program evidence proof : List ℕ) (page : Result Page Stop)
    → between ≡ old → AreAll (old program_path) program → AreAll (old evidence_path) evidence → Exports program evidence proof
    → IfErr page (StopsBy (λ path. Some file ≡ Some path) between new)
    → IfErr page (StopsBy (IsExportFile reads program_path evidence_path file old new) old new)
stops_written reads old between new program_path evidence_path file program evidence proof (Ok p) same all_p all_e exports stops = stops
stops_written reads old between new program_path evidence_path file program evidence proof (Err stop.Memory) same all_p all_e exports stops = stops ∙ same
stops_written reads old between new program_path evidence_path file program evidence proof (Err (stop.File path)) same all_p all_e exports stops =
    inr (same_Some file path.now stops, (program, evidence, all_p, all_e, refuted_refute program evidence exports.f exports.claim exports.refuted))

-- no proof is written for another verdict
unexported : (tells : Bool) (old new : List ℕ → Option (List ℕ)) (file program evidence : List ℕ) (v : Verdict) → v ≢ verdicts.NoDeadlock → new ≡ old
    → IsExportedTo tells old new file program evidence v
unexported tells old new file program evidence verdicts.NoDeadlock other same = absurd (other refl)
unexported tells old new file program evidence verdicts.Deadlock other same = same
unexported tells old new file program evidence (verdicts.Refused reason) other same = same

pub returns-in-Ok-clause-page : goal.returns-in-Ok-clause-page
returns-in-Ok-clause-page g c =
    let held = g.F.FileSet.held c.args.files.now in
    let proof = c.in-Ok.proof.items in
    let (program, all_p, alike_p) = subst (StandsFor AreAlikePrograms (held c.args.asked.program.now)) (sym c.deref.ensures.value) c.in_ok-program.ensures.program in
    let (evidence, all_e, alike_e) = subst (StandsFor AreAlikeEvidences (held c.args.asked.evidence.now)) (sym c.deref-2.ensures.value) c.in_ok-program.ensures.evidence in
    page_written g.F.FileSet.tells_written held (g.F.FileSet.held c.read_both.new.files) (g.F.FileSet.held c.decided_page.new.files)
    c.args.asked.program.now c.args.asked.evidence.now c.args.asked.out.now program evidence proof c.decided_page.result all_p all_e
    (whole_proof c.deref.result.now program c.deref-2.result.now evidence proof alike_p alike_e
    c.in-Ok.ensures.proof) (subst (λ (t : List ℕ). OnOk c.decided_page.result (IsWritten g.F.FileSet.tells_written (g.F.FileSet.held c.read_both.new.files) (g.F.FileSet.held c.decided_page.new.files) (Some c.args.asked.out.now) t)) c.of-proof.ensures c.decided_page.ensures.written)
    c.decided_page.ensures.line

pub returns-in-Ok-clause-stop : goal.returns-in-Ok-clause-stop
returns-in-Ok-clause-stop g c =
    let held = g.F.FileSet.held c.args.files.now in
    let proof = c.in-Ok.proof.items in
    let (program, all_p, alike_p) = subst (StandsFor AreAlikePrograms (held c.args.asked.program.now)) (sym c.deref.ensures.value) c.in_ok-program.ensures.program in
    let (evidence, all_e, alike_e) = subst (StandsFor AreAlikeEvidences (held c.args.asked.evidence.now)) (sym c.deref-2.ensures.value) c.in_ok-program.ensures.evidence in
    stops_written (g.F.FileSet.reads c.args.files.now) held (g.F.FileSet.held c.read_both.new.files) (g.F.FileSet.held c.decided_page.new.files)
    c.args.asked.program.now c.args.asked.evidence.now c.args.asked.out.now program evidence proof c.decided_page.result c.in_ok-program.ensures.same all_p all_e
    (whole_proof c.deref.result.now program c.deref-2.result.now evidence proof alike_p alike_e
    c.in-Ok.ensures.proof) c.decided_page.ensures.stop

pub returns-clause-page : goal.returns-clause-page
returns-clause-page g c =
    let held = g.F.FileSet.held c.args.files.now in
    let page = c.in_ok-page_of-in-Err.field-0 in
    let v = c.in-Err.verdict in
    let (program, all_p, alike_p) = subst (StandsFor AreAlikePrograms (held c.args.asked.program.now)) (sym c.deref.ensures.value) c.in_ok-program.ensures.program in
    let (evidence, all_e, alike_e) = subst (StandsFor AreAlikeEvidences (held c.args.asked.evidence.now)) (sym c.deref-2.ensures.value) c.in_ok-program.ensures.evidence in (
      program,
      evidence,
      v,
      all_p,
      all_e,
      whole_verdict c.deref.result.now program c.deref-2.result.now evidence v alike_p alike_e c.in-Err.ensures.judges,
      unexported g.F.FileSet.tells_written held (g.F.FileSet.held c.read_both.new.files) c.args.asked.out.now program evidence v c.in-Err.ensures.other
          c.in_ok-program.ensures.same,
      subst (λ (t : Outcome). IsLine t false page.text.items page.status) c.from.ensures c.in_ok-page_of-in-Err.ensures,
    )
