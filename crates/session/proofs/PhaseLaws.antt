-- What the pages of `join`, `phases` and `decide --phases` tell, and the laws of their runs.
use Rattle.std.proofs.Common.{◌≡◌, ◌≢◌, ◌⊎◌, ◌<◌, ap, arith, inl, inr, sym, subst, ℕ, Bool, false, List, Option, Ok, Err, Some, None}
use Rattle.std.specs.Io.KnownBytes.{Appends}
use Rattle.clap.specs.Words.{Text}
use Rattle.calltext.specs.Grammar.{long}
use Rattle.semantics.specs.Headline.{IsNeverStuckWithin, IsStuckRunWithin}
use Rattle.semantics.specs.declared.state.Step.{Step}
use Rattle.deciding.specs.Decisions.{HasRace, schedule_text}
use Rattle.deciding.specs.declared.decision.CallerRace.{CallerRace}
use Rattle.deciding.specs.declared.decision.Decision.TheVariants as decisions
use Rattle.command_line.specs.Requests.{AskFor, Task}
use Rattle.command_line.proofs.ReadTasks.{one_task_is_asked}
use Rattle.session.specs.Asking.{TellsDeadlock, TellsSafety}
use Rattle.session.specs.Endings.{SessionEnds, TaskEnds}
use Rattle.session.specs.Lines.{told_of_undecided}
use Rattle.session.specs.Pages.{ChangesAtMost, IsWritten}
use Rattle.session.specs.PhaseLaws.{AskByPhases, CutsAreWritten, CutsStayInFolder, HasLeftCut, PhasesAreJoined}
use Rattle.session.specs.Phasing.{IsCutPage, IsJoinedPage, IsPhasesPage, IsWrittenCut}
use Rattle.session.specs.Runs.{PrintsAlone, SessionRun}
use Rattle.session.specs.declared.told.Outcome.TheVariants as told
use Rattle.session.proofs.DeadlockLines.{PageTells, PageTellsSafety, cut_untold, lacking_unsafe, lacking_untold, line_tells, line_tells_safety}
use Rattle.session.proofs.Deadlocks.{all_are}
use Rattle.session.proofs.DecidedPages.{not_safe, not_stuck, undecided_above}
use Rattle.session.proofs.RunLaws.{ended, followed, page_printed, page_that_reassured, page_that_told}
use Rattle.session.proofs.CutNames.{jobs_held, order_held, others_kept, text_held}
use Rattle.session.proofs.TaskEnds.{task_ends}

-- ---- pages

module _ (tells : Bool) (before after : List ℕ → Option (List ℕ)) (out : Option (List ℕ)) (json : Bool) where
  -- where phases tell a deadlock, they show a run that gets stuck
  phases_hang : (program text : List ℕ) (status : ℕ) → IsPhasesPage tells before after out json program text status → PageTells text status
      → (steps : List Step) × IsStuckRunWithin long program steps
  phases_hang program text status (inl shown) says =
      let other : told.NoDeadlock ≡ told.Deadlock = line_tells told.NoDeadlock json text status shown.2 says in absurd cc
  phases_hang program text status (inr (inl hangs)) says = (hangs.0, hangs.1)
  phases_hang program text status (inr (inr lacking)) says = absurd (lacking_untold json text status lacking.1 says)

  -- where they tell that there is none, they show that
  phases_safe : (program text : List ℕ) (status : ℕ) → IsPhasesPage tells before after out json program text status → PageTellsSafety text status
      → IsNeverStuckWithin long program
  phases_safe program text status (inl shown) says = shown.0
  phases_safe program text status (inr (inl hangs)) says =
      let other : told.Deadlock ≡ told.NoDeadlock = line_tells_safety told.Deadlock json text status hangs.3 says in absurd cc
  phases_safe program text status (inr (inr lacking)) says = absurd (lacking_unsafe json text status lacking.1 says)

  -- where the status is 1, the schedule of such a run is written
  phases_written : (program text : List ℕ) → IsPhasesPage tells before after out json program text 1
      → (steps : List Step) × IsStuckRunWithin long program steps × IsWritten tells before after out (schedule_text steps)
  phases_written program text (inl shown) = absurd (omega (arith, shown.2.3))
  phases_written program text (inr (inl hangs)) = (hangs.0, hangs.1, hangs.2)
  phases_written program text (inr (inr lacking)) = absurd (omega (arith, lacking.1.3))

  -- a page that tells a deadlock is of a program with a run that gets stuck
  pub joined_hangs : (p text : List ℕ) (status : ℕ) (program : List ℕ) → IsJoinedPage tells before after p out json text status → PageTells text status
      → before p ≡ Some program → (steps : List Step) × IsStuckRunWithin long program steps
  joined_hangs p text status program (given, Ok decisions.NoDeadlock, all, is, ends) says held =
      let other : told.NoDeadlock ≡ told.Deadlock = line_tells told.NoDeadlock json text status ends.1 says in absurd cc
  joined_hangs p text status program (given, Ok (decisions.Deadlock steps), all, is, ends) says held =
      (steps.items, subst (λ (bytes : List ℕ). IsStuckRunWithin long bytes steps.items) (all_are (before p) given program all held) is)
  joined_hangs p text status program (given, Ok (decisions.Race race), all, is, ends) says held =
      subst (λ (bytes : List ℕ). (steps : List Step) × IsStuckRunWithin long bytes steps) (all_are (before p) given program all held)
      (phases_hang given text status ends says)
  joined_hangs p text status program (given, Err why, all, is, ends) says held =
      absurd (not_stuck why (line_tells (told_of_undecided why) json text status ends.1 says))

  -- one with the status 1 has its schedule written
  joined_written : (p text program : List ℕ) → IsJoinedPage tells before after p out json text 1 → before p ≡ Some program
      → (steps : List Step) × IsStuckRunWithin long program steps × IsWritten tells before after out (schedule_text steps)
  joined_written p text program (given, Ok decisions.NoDeadlock, all, is, ends) held = absurd (omega (arith, ends.1.3))
  joined_written p text program (given, Ok (decisions.Deadlock steps), all, is, ends) held =
      (steps.items, subst (λ (bytes : List ℕ). IsStuckRunWithin long bytes steps.items) (all_are (before p) given program all held) is, ends.0)
  joined_written p text program (given, Ok (decisions.Race race), all, is, ends) held =
      subst (λ (bytes : List ℕ). (steps : List Step) × IsStuckRunWithin long bytes steps × IsWritten tells before after out (schedule_text steps))
      (all_are (before p) given program all held) (phases_written given text ends)
  joined_written p text program (given, Err why, all, is, ends) held = absurd (omega (arith, ends.1.3, undecided_above why))

  -- one that tells that there is none is of a program that never gets stuck
  joined_safe : (p text : List ℕ) (status : ℕ) (program : List ℕ) → IsJoinedPage tells before after p out json text status → PageTellsSafety text status
      → before p ≡ Some program → IsNeverStuckWithin long program
  joined_safe p text status program (given, Ok decisions.NoDeadlock, all, is, ends) says held =
      subst (IsNeverStuckWithin long) (all_are (before p) given program all held) is
  joined_safe p text status program (given, Ok (decisions.Deadlock steps), all, is, ends) says held =
      let other : told.Deadlock ≡ told.NoDeadlock = line_tells_safety told.Deadlock json text status ends.1 says in absurd cc
  joined_safe p text status program (given, Ok (decisions.Race race), all, is, ends) says held =
      subst (IsNeverStuckWithin long) (all_are (before p) given program all held) (phases_safe given text status ends says)
  joined_safe p text status program (given, Err why, all, is, ends) says held =
      absurd (not_safe why (line_tells_safety (told_of_undecided why) json text status ends.1 says))

-- the page of `phases` that tells a deadlock is of such a program too
pub cut_hangs : (tells : Bool) (before after : List ℕ → Option (List ℕ)) (p folder text : List ℕ) (status : ℕ) (program : List ℕ)
    → IsCutPage tells before after p folder text status → PageTells text status → before p ≡ Some program → (steps : List Step) × IsStuckRunWithin long program steps
cut_hangs tells before after p folder text status program (given, Ok decisions.NoDeadlock, all, is, page) says held =
    let other : told.NoDeadlock ≡ told.Deadlock = line_tells told.NoDeadlock false text status page.1 says in absurd cc
cut_hangs tells before after p folder text status program (given, Ok (decisions.Deadlock steps), all, is, page) says held =
    (steps.items, subst (λ (bytes : List ℕ). IsStuckRunWithin long bytes steps.items) (all_are (before p) given program all held) is)
cut_hangs tells before after p folder text status program (given, Ok (decisions.Race race), all, is, page) says held = absurd (cut_untold given page.whole.p page.cut text status page.line says)
cut_hangs tells before after p folder text status program (given, Err why, all, is, page) says held =
    absurd (not_stuck why (line_tells (told_of_undecided why) false text status page.1 says))

-- ---- runs

-- a run whose words ask for a task ends as the task does, or changes no file
pub task_or_same : (run : SessionRun) {task : Task} → SessionEnds run → AskFor run.words task → TaskEnds run task ⊎ (run.after ≡ run.before)
task_or_same run {task = task} (inl asked) asks = inl (subst (TaskEnds run) (one_task_is_asked run.words asked.0 task asked.1 asks) asked.2)
task_or_same run (inr unasked) asks = inr unasked.0

-- a file that may not change holds what it held
pub file_kept : (out : Option (List ℕ)) (old new : List ℕ → Option (List ℕ)) (path : List ℕ) → ChangesAtMost out old new → out ≢ Some path → new path ≡ old path
file_kept None old new path same other = ap (λ (held : List ℕ → Option (List ℕ)). held path) same
file_kept (Some file) old new path keeps other = keeps path (λ e. other (ap Some (sym e)))

module _ (run : SessionRun) (p : Text) (out : Option Text) (ends : SessionEnds run) where
  -- the page of a run that told a deadlock, that told that there is none, and that ended with the
  -- status 1
  told_by_phases : AskByPhases run.words p out → TellsDeadlock run → (json : Bool) × (text : List ℕ) × (status : ℕ)
      × IsJoinedPage run.tells.writes run.before run.after p out json text status × PageTells text status
  told_by_phases (inl joins) says =
      let page = page_that_told (ended (task_ends run ends joins.2)) says in (joins.1, page.0, page.1, page.2, page.3)
  told_by_phases (inr decides) says =
      let page = page_that_told ((followed run (task_ends run ends decides.2)).1) says in (decides.1, page.0, page.1, page.2, page.3)

  reassured_by_phases : AskByPhases run.words p out → TellsSafety run → (json : Bool) × (text : List ℕ) × (status : ℕ)
      × IsJoinedPage run.tells.writes run.before run.after p out json text status × PageTellsSafety text status
  reassured_by_phases (inl joins) says =
      let page = page_that_reassured (ended (task_ends run ends joins.2)) says in (joins.1, page.0, page.1, page.2, page.3)
  reassured_by_phases (inr decides) says =
      let page = page_that_reassured ((followed run (task_ends run ends decides.2)).1) says in (decides.1, page.0, page.1, page.2, page.3)

  printed_by_phases : AskByPhases run.words p out → run.status ≡ 1 → (json : Bool) × (text : List ℕ)
      × IsJoinedPage run.tells.writes run.before run.after p out json text 1
  printed_by_phases (inl joins) one =
      let page = page_printed 1 (omega arith) (ended (task_ends run ends joins.2)) one in (joins.1, page.0, page.1)
  printed_by_phases (inr decides) one =
      let page = page_printed 1 (omega arith) ((followed run (task_ends run ends decides.2)).1) one in (decides.1, page.0, page.1)

  kept_by_phases : AskByPhases run.words p out → (path : List ℕ) → out ≢ Some path → run.after path ≡ run.before path
  kept_by_phases (inl joins) path other = elim (task_or_same run ends joins.2) [
    | inl joined ↦ file_kept out run.before run.after path joined.0 other
    | inr same ↦ ap (λ (held : List ℕ → Option (List ℕ)). held path) same
  ]
  kept_by_phases (inr decides) path other = elim (task_or_same run ends decides.2) [
    | inl decided ↦ file_kept out run.before run.after path decided.0 other
    | inr same ↦ ap (λ (held : List ℕ → Option (List ℕ)). held path) same
  ]

pub joined_phases : PhasesAreJoined
joined_phases = record {
  safe = λ run p out program ends asks held says.
      let page = reassured_by_phases run p out ends asks says in
      joined_safe run.tells.writes run.before run.after out page.0 p page.1 page.2 program page.3 page.4 held;
  stuck = λ run p out program ends asks held says.
      let page = told_by_phases run p out ends asks says in
      joined_hangs run.tells.writes run.before run.after out page.0 p page.1 page.2 program page.3 page.4 held;
  schedule = λ run p file program ends asks writes held one.
      let page = printed_by_phases run p (Some file) ends asks one in
      let is = joined_written run.tells.writes run.before run.after (Some file) page.0 p page.1 program page.2 held in
      (is.0, is.1, is.2 writes);
  others = λ run p out path ends asks other. kept_by_phases run p out ends asks path other;
}

pub cuts_stay : CutsStayInFolder
cuts_stay run p folder path ends asks outside = elim (task_or_same run ends asks) [
  | inl cut ↦ cut.0 path outside
  | inr same ↦ ap (λ (held : List ℕ → Option (List ℕ)). held path) same
]

-- ---- what a cut leaves

-- what is printed where the status is its own
printed : (run : SessionRun) (text : List ℕ) (own : ℕ) → own < 5 → run.status ≡ own → PrintsAlone run text own → Appends run.out_before run.out_after text
printed run text own low is prints = elim prints.0 [
  | inl whole ↦ whole.1
  | inr part ↦ absurd (omega (arith, low, is, part.0))
]

left_of : (run : SessionRun) (folder : Text) (program text : List ℕ) → IsWrittenCut run.tells.writes run.before run.after folder program text 0
    → Appends run.out_before run.out_after text → HasLeftCut run folder program
left_of run folder program text is appends = record {
  cut = is.cut;
  is = is.is;
  whole = is.whole;
  told = is.line.0;
  ties = is.line.1;
  printed = subst (Appends run.out_before run.out_after) is.line.2 appends;
  texts = λ writes place part there. text_held folder is.cut run.after (is.files writes) place part there;
  jobs = λ writes. jobs_held folder is.cut run.after (is.files writes);
  order = λ writes. order_held folder is.cut run.after (is.files writes);
  others = λ path texts jobs order. others_kept folder is.cut run.before run.after is.others path texts jobs order;
}

left_by : (run : SessionRun) (p folder : Text) (text program : List ℕ) → IsCutPage run.tells.writes run.before run.after p folder text 0
    → run.before p ≡ Some program → Appends run.out_before run.out_after text
    → (IsNeverStuckWithin long program × (run.after ≡ run.before)) ⊎ ((race : CallerRace) × HasRace program race × HasLeftCut run folder program)
left_by run p folder text program (given, Ok decisions.NoDeadlock, all, is, ends) held appends =
    inl (subst (IsNeverStuckWithin long) (all_are (run.before p) given program all held) is, ends.0)
left_by run p folder text program (given, Ok (decisions.Deadlock steps), all, is, ends) held appends = absurd (omega (arith, ends.1.3))
left_by run p folder text program (given, Ok (decisions.Race race), all, is, ends) held appends =
    inr
    (subst (λ (bytes : List ℕ). (r : CallerRace) × HasRace bytes r × HasLeftCut run folder bytes) (all_are (run.before p) given program all held)
    (race, is, left_of run folder given text ends appends))
left_by run p folder text program (given, Err why, all, is, ends) held appends = absurd (omega (arith, ends.1.3, undecided_above why))

pub cuts_written : CutsAreWritten
cuts_written run p folder program ends asks held zero =
    let page = page_printed 0 (omega arith) (ended (task_ends run ends asks)) zero in
    left_by run p folder page.0 program page.1 held (printed run page.0 0 (omega arith) zero page.2)
