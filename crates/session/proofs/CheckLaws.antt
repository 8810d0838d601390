-- The laws of runs of `check`, `replay` and `encode`.
use Rattle.std.proofs.Common.{◌≡◌, ◌∙◌, ◌⊎◌, arith, ap, inl, inr, sym, subst, ℕ, List, Bool, Some, Option}
use Rattle.clap.specs.Words.{Text}
use Rattle.checker.specs.Headline.{Shows}
use Rattle.checker.specs.Verdicts.{Judges}
use Rattle.checker.specs.declared.reason.Reason.{Reason}
use Rattle.checker.specs.declared.reason.Verdict.{Verdict}
use Rattle.checker.specs.declared.reason.Verdict.TheVariants as verdicts
use Rattle.checker.proofs.OneVerdicts.{kinds_differ, right_or_memory}
use Rattle.reports.specs.Telling.{TellsReplay, TellsRun}
use Rattle.reports.specs.declared.steps.Replayed.{Replayed}
use Rattle.reports.specs.declared.steps.Replayed.TheVariants as replays
use Rattle.session.specs.CheckLaws.{CheckedDeadlockIsPrinted, CheckedDeadlockIsShown, CheckedSafetyIsPrinted, CheckedSafetyIsTrue, EncodedFormulaIsPrinted, ReadFilesAreNotBlamed, RefutedIsChecked, ReplayedDeadlockIsShown, ReplayedRunIsPrinted, ShownDeadlockIsChecked, ShownDeadlockIsReplayed}
use Rattle.session.specs.Lines.{IsLine, deadlock_line, no_deadlock_line, told_of_verdict, told_status}
use Rattle.session.specs.Pages.{HasTextOfFormula, IsCheckedPage, IsEither, IsEncodedPage, IsReplayPage, IsReplayed}
use Rattle.session.specs.Runs.{PrintsAlone, by_file, by_memory, by_page}
use Rattle.session.specs.declared.told.Outcome.TheVariants as told
use Rattle.session.proofs.DeadlockLines.{one_told, safe_line, stuck_line, zero_told}
use Rattle.session.proofs.Deadlocks.{all_are, check_never, check_shows, held_as_read, read_shows, refused_above, replayed_shows}
use Rattle.session.proofs.TaskEnds.{task_ends}
use Rattle.session.proofs.RunLaws.{checked_status, ended, own_ended, page_printed, page_that_reassured, page_that_told, text_printed}

-- ---- check

pub checked : CheckedDeadlockIsShown
checked as_json run p e program evidence ends asks held_p held_e says =
    let page = page_that_told (ended (task_ends run ends asks.1)) says in
    check_shows (run.before p) (run.before e) as_json page.0 page.1 program evidence page.2 page.3 held_p held_e

pub shown_checked : ShownDeadlockIsChecked
shown_checked as_json run p e program evidence ends asks held_p held_e shows =
    own_ended 1 (ended (task_ends run ends asks.1))
    (λ text status. checked_status verdicts.Deadlock (λ e. cc) (run.before p) (run.before e) as_json text status program evidence held_p held_e shows)

pub refuted_checked : RefutedIsChecked
refuted_checked run as_json p e program evidence ends asks held_p held_e refutes =
    own_ended 0 (ended (task_ends run ends asks.1))
    (λ text status. checked_status verdicts.NoDeadlock (λ e. cc) (run.before p) (run.before e) as_json text status program evidence held_p held_e refutes)

pub checked_never : CheckedSafetyIsTrue
checked_never run as_json p e program ends asks held says =
    let page = page_that_reassured (ended (task_ends run ends asks.1)) says in
    check_never (run.before p) (run.before e) as_json page.0 page.1 program page.2 page.3 held

-- what the page of a check with the status 0 tells, and one with the status 1
pub safe_page : (program_file evidence_file : Option (List ℕ)) (json : Bool) (text : List ℕ) → IsCheckedPage program_file evidence_file json text 0
    → text ≡ no_deadlock_line json
safe_page program_file evidence_file json text page =
    safe_line json text 0 (subst (λ t. IsLine t json text 0) (zero_told (told_of_verdict page.2) (sym page.6.3)) page.6)

pub stuck_page : (program_file evidence_file : Option (List ℕ)) (json : Bool) (text : List ℕ) → IsCheckedPage program_file evidence_file json text 1
    → text ≡ deadlock_line json
stuck_page program_file evidence_file json text page =
    stuck_line json text 1 (subst (λ t. IsLine t json text 1) (one_told (told_of_verdict page.2) (sym page.6.3)) page.6)

pub checked_safe : CheckedSafetyIsPrinted
checked_safe run as_json p e ends asks zero =
    text_printed 0 (omega arith) (no_deadlock_line as_json) (safe_page (run.before p) (run.before e) as_json) (ended (task_ends run ends asks.1)) zero

pub checked_stuck : CheckedDeadlockIsPrinted
checked_stuck run as_json p e ends asks one =
    text_printed 1 (omega arith) (deadlock_line as_json) (stuck_page (run.before p) (run.before e) as_json) (ended (task_ends run ends asks.1)) one

pub not_blamed : ReadFilesAreNotBlamed
not_blamed run as_json p e ends asks read_p read_e five = elim (ended (task_ends run ends asks.1)) [
  | inl (by_page text status page prints) ↦ prints.1
  | inl (by_memory same prints) ↦ prints.1
  | inl (by_file path file complains) ↦ absurd (either_unread file)
  | inr fails ↦ absurd (omega (arith, five, fails.0))
]
  where
    either_unread : {path : Text} → IsEither run.tells.reads p e path → ⊥
    either_unread (inl program) = program.1 read_p
    either_unread (inr evidence) = evidence.1 read_e

-- ---- replay

pub replayed : ReplayedDeadlockIsShown
replayed lines run p e program evidence ends asks held_p held_e says =
    let page = page_that_told (ended (task_ends run ends asks)) says in
    replayed_shows lines (run.before p) (run.before e) page.0 page.1 program evidence page.2 page.3 held_p held_e

-- where a replay is refused though the evidence shows a deadlock, it is for want of memory
refused_by_memory : (program evidence : List ℕ) (reason : Reason) → Judges program evidence (verdicts.Refused reason) → Shows program evidence
    → told_status (told.Refused reason) ≡ 4
refused_by_memory program evidence reason judges shows = elim (right_or_memory program evidence (verdicts.Refused reason) verdicts.Deadlock judges shows (λ e. cc)) [
  | inl e ↦ cc
  | inr e ↦ ap (λ (v : Verdict). told_status (told_of_verdict v)) e
]

replay_status : (lines : Bool) (program evidence : List ℕ) (r : Replayed) (text : List ℕ) (status : ℕ) → TellsReplay lines program evidence r → IsReplayPage r text status
    → Shows program evidence → (status ≡ 1) ⊎ (status ≡ 4)
replay_status lines program evidence (replays.Stuck steps) text status given page shows = inl page.1
replay_status lines program evidence (replays.Refused reason) text status given page shows =
    inr (page.3 ∙ refused_by_memory program evidence reason given.0 shows)
replay_status lines program evidence replays.NotASchedule text status given page shows =
    absurd (kinds_differ evidence shows.steps given.claim shows.schedule given.refutation)

replayed_status : (lines : Bool) (program_file evidence_file : Option (List ℕ)) (text : List ℕ) (status : ℕ) (program evidence : List ℕ)
    → IsReplayed lines program_file evidence_file text status → program_file ≡ Some program → evidence_file ≡ Some evidence → Shows program evidence
    → (status ≡ 1) ⊎ (status ≡ 4)
replayed_status lines program_file evidence_file text status program evidence page held_p held_e shows =
    replay_status lines page.0 page.1 page.2 text status page.5 page.6
    (read_shows program_file evidence_file page.0 page.1 program evidence page.3 page.4 held_p held_e shows)

pub shown_replayed : ShownDeadlockIsReplayed
shown_replayed lines run p e program evidence ends asks held_p held_e shows =
    own_ended 1 (ended (task_ends run ends asks))
    (λ text status page. replayed_status lines (run.before p) (run.before e) text status program evidence page held_p held_e shows)

-- the page of a replay with the status 1 is the run that is shown
stuck_replay : (lines : Bool) (program evidence : List ℕ) (r : Replayed) (text : List ℕ) → TellsReplay lines program evidence r → IsReplayPage r text 1
    → (shown : Shows program evidence) × TellsRun lines program shown.p shown.steps text
stuck_replay lines program evidence (replays.Stuck steps) text given page =
    (given.0, subst (TellsRun lines program given.0.p given.0.steps) (sym page.0) given.1)
stuck_replay lines program evidence (replays.Refused reason) text given page = absurd (omega (arith, page.3, refused_above reason))
stuck_replay lines program evidence replays.NotASchedule text given page = absurd (omega (arith, page.3))

-- and none has the status 0
never_replayed : (r : Replayed) (text : List ℕ) → IsReplayPage r text 0 → ⊥
never_replayed (replays.Stuck steps) text page = omega (arith, page.1)
never_replayed (replays.Refused reason) text page = omega (arith, page.3, refused_above reason)
never_replayed replays.NotASchedule text page = omega (arith, page.3)

pub replayed_run : ReplayedRunIsPrinted
replayed_run = record {
  printed = λ run lines p e program evidence ends asks held_p held_e one.
      let page = page_printed 1 (omega arith) (ended (task_ends run ends asks)) one in
      let is = page.1 in
      let stuck = stuck_replay lines is.0 is.1 is.2 page.0 is.5 is.6 in
      held_as_read (λ x y. (shown : Shows x y) × (text : List ℕ) × TellsRun lines x shown.p shown.steps text × PrintsAlone run text 1)
      (run.before p) (run.before e) is.0 is.1 program evidence is.3 is.4 held_p held_e (stuck.0, page.0, stuck.1, page.2);
  never_safe = λ run lines p e ends asks zero.
      let page = page_printed 0 (omega arith) (ended (task_ends run ends asks)) zero in
      never_replayed page.1.2 page.0 page.1.6;
}

-- ---- encode

-- the page of `encode` with the status 0 is the formula's text
encoded_text : (dimacs : Bool) (file : Option (List ℕ)) (text program : List ℕ) → IsEncodedPage dimacs file text 0 → file ≡ Some program
    → HasTextOfFormula dimacs program text
encoded_text dimacs file text program (read, all, inl formula) held =
    subst (λ (x : List ℕ). HasTextOfFormula dimacs x text) (all_are file read program all held) formula.0
encoded_text dimacs file text program (read, all, inr (reason, why, line)) held = absurd (omega (arith, line.3, refused_above reason))

-- and none has the status 1
never_encoded : (dimacs : Bool) (file : Option (List ℕ)) (text : List ℕ) → IsEncodedPage dimacs file text 1 → ⊥
never_encoded dimacs file text (read, all, inl formula) = omega (arith, formula.1)
never_encoded dimacs file text (read, all, inr (reason, why, line)) = omega (arith, line.3, refused_above reason)

pub encoded : EncodedFormulaIsPrinted
encoded = record {
  formula = λ run p dimacs program ends asks held zero.
      let page = page_printed 0 (omega arith) (ended (task_ends run ends asks)) zero in
      (page.0, encoded_text dimacs (run.before p) page.0 program page.1 held, page.2);
  never_stuck = λ run p dimacs ends asks one.
      let page = page_printed 1 (omega arith) (ended (task_ends run ends asks)) one in
      never_encoded dimacs (run.before p) page.0 page.1;
}
