-- The laws of runs of `export`, `trim` and `shrink`.
use Rattle.std.proofs.Common.{◌≡◌, ◌∙◌, ◌<◌, arith, ap, inl, inr, sym, subst, ℕ, List, Bool, false, Some, None, Option}
use Rattle.checker.specs.declared.reason.Reason.TheVariants as reasons
use Rattle.checker.specs.declared.reason.Verdict.{Verdict}
use Rattle.checker.specs.declared.reason.Verdict.TheVariants as verdicts
use Rattle.session.specs.parts.FileLaws.{IsHandedOver, IsMapWritten, ShrunkProgramHangs}
use Rattle.session.specs.FileLaws.{ExportedAnswerIsPrinted, ExportedProofIsWritten, ExportedSafetyIsTrue, TrimmedRefutationIsWritten}
use Rattle.session.specs.Lines.{line_text, lines_words, no_deadlock_line, told_of_untrimmed, told_of_verdict, told_status}
use Rattle.session.specs.Pages.{ChangesAtMost, IsExportedTo, IsTrimmedPage, IsWritten}
use Rattle.session.specs.Runs.{PrintsAlone, SessionRun}
use Rattle.session.specs.Shrinking.{AreWritten, Hangs, IsHandedSmaller, IsMadeSmaller, IsSmaller, IsSmallerPage, IsUnhung}
use Rattle.shrinking.specs.Left.{AreLeft}
use Rattle.shrinking.specs.Mapping.{map_text}
use Rattle.files.specs.Contents.{AreAll}
use Rattle.reports.specs.Trimming.{Shortens}
use Rattle.reports.specs.declared.trimmed.Shortened.{Shortened}
use Rattle.reports.specs.declared.trimmed.Untrimmed.{Untrimmed}
use Rattle.reports.specs.declared.trimmed.Untrimmed.TheVariants as untrimmed
use Rattle.reports.proofs.Shorter.{shortened_refutes}
use Rattle.session.specs.declared.told.Outcome.TheVariants as told
use Rattle.session.proofs.DeadlockLines.{PageTells, line_tells, lines_untold, one_told, unshrunk_untold}
use Rattle.session.proofs.Deadlocks.{all_are, check_never, exported_checked, exported_proof, undecided_above, undecided_untold, refused_above, refused_differs, safe_differs}
use Rattle.session.proofs.SmallerPrograms.{smaller_hangs}
use Rattle.session.proofs.TaskEnds.{task_ends}
use Rattle.session.proofs.RunLaws.{ended, page_printed, page_that_reassured, text_printed}
use Rattle.session.proofs.CheckLaws.{safe_page, stuck_page}

-- ---- export

pub exported_never : ExportedSafetyIsTrue
exported_never run p e out program ends asks held says =
    let page = page_that_reassured (ended (task_ends run ends asks)) says in
    check_never (run.before p) (run.before e) false page.0 page.1 program
    (exported_checked run.tells.writes run.before run.after p e out page.0 page.1 page.2) page.3 held

pub exported_written : ExportedProofIsWritten
exported_written run p e out program evidence ends asks writes held_p held_e says =
    let page = page_that_reassured (ended (task_ends run ends asks)) says in
    exported_proof run.tells.writes writes run.before run.after p e out page.0 page.1 program evidence page.2 page.3 held_p held_e

-- an export that tells a deadlock changes no file
stuck_export : (tells : Bool) (before after : List ℕ → Option (List ℕ)) (file program evidence : List ℕ) (v : Verdict) → told_of_verdict v ≡ told.Deadlock
    → IsExportedTo tells before after file program evidence v → after ≡ before
stuck_export tells before after file program evidence verdicts.NoDeadlock e exported = absurd (safe_differs e)
stuck_export tells before after file program evidence verdicts.Deadlock e exported = exported
stuck_export tells before after file program evidence (verdicts.Refused reason) e exported = absurd (refused_differs reason e)

pub exported : ExportedAnswerIsPrinted
exported = record {
  safety = λ run p e out ends asks zero.
      text_printed 0 (omega arith) (no_deadlock_line false)
      (λ text page. safe_page (run.before p) (run.before e) false text (exported_checked run.tells.writes run.before run.after p e out text 0 page))
      (ended (task_ends run ends asks)) zero;
  deadlock = λ run p e out ends asks one.
      let page = page_printed 1 (omega arith) (ended (task_ends run ends asks)) one in
      let is = page.1 in (
        stuck_export run.tells.writes run.before run.after out is.0 is.1 is.2 (one_told (told_of_verdict is.2) (sym is.7.3)) is.6,
        subst (λ (text : List ℕ). PrintsAlone run text 1)
            (stuck_page (run.before p) (run.before e) false page.0 (exported_checked run.tells.writes run.before run.after p e out page.0 1 is)) page.2,
      );
}

-- ---- trim

-- why a refutation was not trimmed has a status above 2
untrimmed_above : (why : Untrimmed) → 2 < told_status (told_of_untrimmed why)
untrimmed_above untrimmed.Memory = omega arith
untrimmed_above (untrimmed.Evidence fault) = refused_above (reasons.Evidence fault)
untrimmed_above untrimmed.Number = omega arith
untrimmed_above untrimmed.NotRefutation = omega arith

trimmed_page : (tells : Bool) (before after : List ℕ → Option (List ℕ)) (e out : List ℕ) (as_json : Bool) (text : List ℕ) (status : ℕ) → IsTrimmedPage tells before after e out as_json text status → status < 3
    → (evidence : List ℕ) × AreAll (before e) evidence × ((s : Shortened) × Shortens evidence s × IsWritten tells before after (Some out) s.text.items
    × (text ≡ line_text as_json (lines_words s.before s.after) 0) × (status ≡ 0))
trimmed_page tells before after e out as_json text status (evidence, all, inl shorter) low = (evidence, all, shorter)
trimmed_page tells before after e out as_json text status (evidence, all, inr (why, is, same, line)) low =
    absurd (omega (arith, low, line.3, untrimmed_above why))

pub trimmed_untold : (tells : Bool) (before after : List ℕ → Option (List ℕ)) (e out : List ℕ) (as_json : Bool) (text : List ℕ) (status : ℕ) → IsTrimmedPage tells before after e out as_json text status → PageTells text status → ⊥
trimmed_untold tells before after e out as_json text status (evidence, all, inl shorter) says =
    lines_untold as_json shorter.0.before shorter.0.after text status shorter.3 shorter.4 says
trimmed_untold tells before after e out as_json text status (evidence, all, inr (why, is, same, line)) says =
    let told_is = line_tells (told_of_untrimmed why) as_json text status line says in
    omega (arith, untrimmed_above why, ap told_status told_is)

pub trimmed : TrimmedRefutationIsWritten
trimmed = record {
  written = λ run e out as_json evidence ends asks writes held zero.
      let page = page_printed 0 (omega arith) (ended (task_ends run ends asks)) zero in
      let is = trimmed_page run.tells.writes run.before run.after e out as_json page.0 0 page.1 (omega arith) in
      let s = is.2.0 in
      let shortens : Shortens evidence s = subst (λ (bytes : List ℕ). Shortens bytes s) (all_are (run.before e) is.0 evidence is.1 held) is.2.1 in (
        s,
        shortens,
        is.2.2 writes,
        λ program refutes. shortened_refutes program evidence s shortens refutes,
        subst (λ (text : List ℕ). PrintsAlone run text 0) is.2.3 page.2,
      );
  never_stuck = λ run e out as_json ends asks one.
      let page = page_printed 1 (omega arith) (ended (task_ends run ends asks)) one in
      let is = trimmed_page run.tells.writes run.before run.after e out as_json page.0 1 page.1 (omega arith) in
      omega (arith, is.2.4);
}

-- ---- shrink

-- a page with the status 1 is that of a smaller program
shrunk_page : (tells : Bool) (before after : List ℕ → Option (List ℕ)) (p : List ℕ) (out map : Option (List ℕ)) (text : List ℕ) → IsMadeSmaller tells before after p out map text 1
    → (program : List ℕ) × AreAll (before p) program × IsHandedSmaller tells before after p out map program text 1
shrunk_page tells before after p out map text (program, all, inl s) = (program, all, s)
shrunk_page tells before after p out map text (program, all, inr (inl finishes)) = absurd (omega (arith, finishes.3))
shrunk_page tells before after p out map text (program, all, inr (inr refused)) = absurd (omega (arith, undecided_above false refused.0 text 1 refused.3))

-- one with the status 2 is of a program that can finish
unshrunk_page : (tells : Bool) (before after : List ℕ → Option (List ℕ)) (p : List ℕ) (out map : Option (List ℕ)) (text : List ℕ) → IsMadeSmaller tells before after p out map text 2
    → (program : List ℕ) × AreAll (before p) program × IsUnhung program
unshrunk_page tells before after p out map text (program, all, inl s) = absurd (omega (arith, s.one))
unshrunk_page tells before after p out map text (program, all, inr (inl finishes)) = (program, all, finishes.0)
unshrunk_page tells before after p out map text (program, all, inr (inr refused)) = absurd (omega (arith, undecided_above false refused.0 text 2 refused.3))

-- and none has the status 0
never_shrunk : (tells : Bool) (before after : List ℕ → Option (List ℕ)) (p : List ℕ) (out map : Option (List ℕ)) (text : List ℕ) → IsMadeSmaller tells before after p out map text 0 → ⊥
never_shrunk tells before after p out map text (program, all, inl s) = omega (arith, s.one)
never_shrunk tells before after p out map text (program, all, inr (inl finishes)) = omega (arith, finishes.3)
never_shrunk tells before after p out map text (program, all, inr (inr refused)) = omega (arith, undecided_above false refused.0 text 0 refused.3)

-- a page that tells a deadlock is of a program that can hang
pub shrunk_hangs : (tells : Bool) (before after : List ℕ → Option (List ℕ)) (p : List ℕ) (out map : Option (List ℕ)) (text : List ℕ) (status : ℕ) (program : List ℕ)
    → IsMadeSmaller tells before after p out map text status → PageTells text status → before p ≡ Some program → Hangs program
shrunk_hangs tells before after p out map text status program (given, all, inl s) says held =
    subst Hangs (all_are (before p) given program all held) (smaller_hangs given s.smaller s.is)
shrunk_hangs tells before after p out map text status program (given, all, inr (inl finishes)) says held =
    absurd (unshrunk_untold text status finishes.2 finishes.3 says)
shrunk_hangs tells before after p out map text status program (given, all, inr (inr refused)) says held =
    absurd (undecided_untold false refused.0 text status refused.3 says)

-- what was written before the map stays, where the map is written elsewhere
pub map_keeps : (between after : List ℕ → Option (List ℕ)) (map : Option (List ℕ)) (file : List ℕ) → ChangesAtMost map between after → (map ≡ Some file → ⊥) → after file ≡ between file
map_keeps between after None file kept other = ap (λ (held : List ℕ → Option (List ℕ)). held file) kept
map_keeps between after (Some places) file kept other = kept file (λ same. other (ap Some (sym same)))

handed_over : (run : SessionRun) (out map : Option (List ℕ)) (smaller lines places text : List ℕ) → AreWritten run.tells.writes run.before run.after out map smaller places
    → IsSmallerPage out smaller lines text → PrintsAlone run text 1 → IsHandedOver run out map smaller lines
handed_over run None map smaller lines places text written page prints = subst (λ (t : List ℕ). PrintsAlone run t 1) page prints
handed_over run (Some file) map smaller lines places text written page prints =
    (subst (λ (t : List ℕ). PrintsAlone run t 1) page prints, λ tells other. map_keeps written.between run.after map file written.kept other ∙ written.program tells)

map_written : (run : SessionRun) (between : List ℕ → Option (List ℕ)) (map : Option (List ℕ)) (places : List ℕ) → IsWritten run.tells.writes between run.after map places → IsMapWritten run map places
map_written run between None places written = tt
map_written run between (Some file) places written = written

pub shrunk : ShrunkProgramHangs
shrunk = record {
  smaller = λ run p out map program ends asks held one.
      let page = page_printed 1 (omega arith) (ended (task_ends run ends asks)) one in
      let is = shrunk_page run.tells.writes run.before run.after p out map page.0 page.1 in
      let s = is.2 in
      let same = all_are (run.before p) is.0 program is.1 held in (
        s.smaller,
        s.lines,
        subst (λ (given : List ℕ). IsSmaller given s.smaller) same s.is,
        subst (λ (given : List ℕ). AreLeft given s.smaller s.lines) same s.left,
        handed_over run out map s.smaller s.lines (map_text p s.smaller s.lines) page.0 s.written s.page page.2,
        map_written run s.written.between map (map_text p s.smaller s.lines) s.written.mapped,
      );
  finishes = λ run p out map program ends asks held two.
      let page = page_printed 2 (omega arith) (ended (task_ends run ends asks)) two in
      let is = unshrunk_page run.tells.writes run.before run.after p out map page.0 page.1 in
      subst IsUnhung (all_are (run.before p) is.0 program is.1 held) is.2;
  never_safe = λ run p out map ends asks zero.
      let page = page_printed 0 (omega arith) (ended (task_ends run ends asks)) zero in
      never_shrunk run.tells.writes run.before run.after p out map page.0 page.1;
}
