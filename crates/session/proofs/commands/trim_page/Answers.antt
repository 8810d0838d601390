-- Where a refutation was trimmed, its text is written, or its file failed.
use Rattle.std.proofs.Common.{◌≡◌, ◌∙◌, IfErr, IfOk, OnOk, Bool, ℕ, List, Result, Ok, Err, Some, inl, inr, sym, subst}
use Rattle.std.specs.Prelude.{Option}
use Rattle.files.specs.Contents.{AreAll}
use Rattle.reports.specs.Trimming.{Shortens}
use Rattle.reports.specs.declared.trimmed.Shortened.{Shortened}
use Rattle.session.specs.Lines.{IsLine, line_text, lines_words}
use Rattle.session.specs.parts.Pages.{StopsBy}
use Rattle.session.specs.Pages.{IsTrimFile, IsTrimmedPage, IsWritten}
use Rattle.session.specs.parts.Texts.{AreAlikeEvidences, StandsFor}
use Rattle.session.specs.declared.commands.Stop.{Stop}
use Rattle.session.specs.declared.commands.Stop.TheVariants as stop
use Rattle.session.specs.declared.page.Page.{Page}
use Rattle.session.specs.declared.told.Outcome.{Outcome}
use Rattle.session.proofs.WholeAnswers.{whole_shorter, whole_untrimmed}
use Rattle.session.proofs.commands.trim_page.Goals as goal

-- the page of a refutation that was written
page_written : (tells : Bool) (old between new : List ℕ → Option (List ℕ)) (evidence_path file evidence : List ℕ) (json : Bool) (s : Shortened) (page : Result Page Stop)
    → AreAll (old evidence_path) evidence → Shortens evidence s → OnOk page (IsWritten tells between new (Some file) s.text.items)
    → IfOk page (λ p. p.text.items ≡ line_text json (lines_words s.before s.after) 0) → IfOk page (λ p. p.status ≡ 0)
    → IfOk page (λ p. IsTrimmedPage tells old new evidence_path file json p.text.items p.status)
page_written tells old between new evidence_path file evidence json s (Ok p) all shortens written text status = (evidence, all, inl (s, shortens, written, text, status))
page_written tells old between new evidence_path file evidence json s (Err e) all shortens written text status = text

-- a file that failed after the refutation was trimmed
stops_written : (reads : List ℕ → Bool) (old between new : List ℕ → Option (List ℕ)) (evidence_path file evidence : List ℕ) (s : Shortened) (page : Result Page Stop)
    → between ≡ old → AreAll (old evidence_path) evidence → Shortens evidence s → IfErr page (StopsBy (λ path. path ≡ file) between new)
    → IfErr page (StopsBy (IsTrimFile reads evidence_path file old new) old new)
stops_written reads old between new evidence_path file evidence s (Ok p) same all shortens stops = stops
stops_written reads old between new evidence_path file evidence s (Err stop.Memory) same all shortens stops = stops ∙ same
stops_written reads old between new evidence_path file evidence s (Err (stop.File path)) same all shortens stops = inr (sym stops, (evidence, s, all, shortens))

pub returns-in-Ok-clause-page : goal.returns-in-Ok-clause-page
returns-in-Ok-clause-page g c =
    let held = g.F.FileSet.held c.args.files.now in
    let (whole, all, alike) = subst (StandsFor AreAlikeEvidences (held c.args.asked.evidence.now)) (sym c.deref.ensures.value) c.in_ok-bytes.ensures.bytes in
    let shorter = whole_shorter c.deref.result.now whole c.in-Ok.shortened alike c.in-Ok.ensures.shortened in
    page_written g.F.FileSet.tells_written held (g.F.FileSet.held c.read_evidence.new.files) (g.F.FileSet.held c.shortened_page.new.files)
    c.args.asked.evidence.now c.args.asked.out.now whole c.args.asked.json c.in-Ok.shortened c.shortened_page.result all shorter
    c.shortened_page.ensures.written c.shortened_page.ensures.text c.shortened_page.ensures.status

pub returns-in-Ok-clause-stop : goal.returns-in-Ok-clause-stop
returns-in-Ok-clause-stop g c =
    let held = g.F.FileSet.held c.args.files.now in
    let (whole, all, alike) = subst (StandsFor AreAlikeEvidences (held c.args.asked.evidence.now)) (sym c.deref.ensures.value) c.in_ok-bytes.ensures.bytes in
    let shorter = whole_shorter c.deref.result.now whole c.in-Ok.shortened alike c.in-Ok.ensures.shortened in
    stops_written (g.F.FileSet.reads c.args.files.now) held (g.F.FileSet.held c.read_evidence.new.files) (g.F.FileSet.held c.shortened_page.new.files)
    c.args.asked.evidence.now c.args.asked.out.now whole c.in-Ok.shortened c.shortened_page.result
    c.in_ok-bytes.ensures.same all shorter c.shortened_page.ensures.stop

pub returns-clause-page : goal.returns-clause-page
returns-clause-page g c =
    let page = c.in_ok-page_of-in-Err.field-0 in
    let (whole, all, alike) = subst (StandsFor AreAlikeEvidences _) (sym c.deref.ensures.value) c.in_ok-bytes.ensures.bytes in (
      whole,
      all,
      inr (
        c.in-Err.why,
        whole_untrimmed c.deref.result.now whole c.in-Err.why alike c.in-Err.ensures.why,
        c.in_ok-bytes.ensures.same,
        subst (λ (t : Outcome). IsLine t c.args.asked.json page.text.items page.status) c.from.ensures c.in_ok-page_of-in-Err.ensures,
      ),
    )
