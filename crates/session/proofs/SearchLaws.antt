-- The laws of runs of `prove`, `explain` and `decide`.
use Rattle.std.proofs.Common.{◌≡◌, ◌<◌, arith, inl, inr, sym, subst, ℕ, List, Bool, Some, None, Option}
use Rattle.clap.specs.Words.{Text}
use Rattle.options.specs.declared.form.Form.{Form}
use Rattle.session.specs.Asking.{AskToExplain, AskToProve, TellsDeadlock}
use Rattle.session.specs.Endings.{IsFollowed, SessionEnds}
use Rattle.session.specs.Explaining.{IsExplainPage}
use Rattle.session.specs.Lines.{IsLine, deadlock_line, no_deadlock_line, told_of_answer}
use Rattle.session.specs.Pages.{IsProved}
use Rattle.session.specs.Runs.{PrintsAlone, SessionRun}
use Rattle.session.specs.SearchLaws.{DecidedRunsAreRight, ExplainedDeadlockIsShown, ExplainedSafetyIsTrue, ExplainedUnknownFinishes, ProvedDeadlockIsPrinted, ProvedDeadlockIsShown, ProvedSafetyIsPrinted, ProvedSafetyIsTrue, ProvedUnknownFinishes, WrittenDeadlockIsShown, WrittenSafetyIsRefuted}
use Rattle.session.proofs.DeadlockLines.{PageTells, one_told, safe_line, stuck_line, unknown_page, unknown_untold, zero_told}
use Rattle.session.proofs.Deadlocks.{explained_shows, file_refutes, file_shows, prove_finishes, prove_never, prove_shows}
use Rattle.session.proofs.MappedPages.{unmapped_page, unmapped_told}
use Rattle.session.proofs.ExplainedPages.{explained_finishes, first_never, first_shows, given_never}
use Rattle.session.proofs.DecidedPages.{decided_hangs, decided_race, decided_safe, decided_written}
use Rattle.session.proofs.TaskEnds.{task_ends}
use Rattle.session.proofs.RunLaws.{ended, followed, page_printed, page_that_reassured, page_that_told, text_printed}

-- ---- prove

pub proved : ProvedDeadlockIsShown
proved run p out budget progress as_json program ends asks held says =
    let page = page_that_told ((followed run (task_ends run ends asks.2)).1) says in
    prove_shows run.tells.writes run.before run.after p out budget as_json page.0 page.1 program page.2 page.3 held

pub written : WrittenDeadlockIsShown
written run p file budget progress as_json program ends asks writes held says =
    let page = page_that_told ((followed run (task_ends run ends asks.2)).1) says in
    file_shows run.tells.writes writes run.before run.after p file budget as_json page.0 page.1 program page.2 page.3 held

pub proved_never : ProvedSafetyIsTrue
proved_never run p out budget progress as_json program ends asks held says =
    let page = page_that_reassured ((followed run (task_ends run ends asks.2)).1) says in
    prove_never run.tells.writes run.before run.after p out budget as_json page.0 page.1 program page.2 page.3 held

pub written_never : WrittenSafetyIsRefuted
written_never run p file budget progress as_json program ends asks writes held says =
    let page = page_that_reassured ((followed run (task_ends run ends asks.2)).1) says in
    file_refutes run.tells.writes writes run.before run.after p file budget as_json page.0 page.1 program page.2 page.3 held

safe_search : (tells : Bool) (before after : List ℕ → Option (List ℕ)) (path : List ℕ) (out : Option (List ℕ)) (budget : ℕ) (json : Bool) (text : List ℕ)
    → IsProved tells before after path out budget json text 0 → text ≡ no_deadlock_line json
safe_search tells before after path out budget json text page =
    safe_line json text 0 (subst (λ t. IsLine t json text 0) (zero_told (told_of_answer page.1) (sym page.6.3)) page.6)

stuck_search : (tells : Bool) (before after : List ℕ → Option (List ℕ)) (path : List ℕ) (out : Option (List ℕ)) (budget : ℕ) (json : Bool) (text : List ℕ)
    → IsProved tells before after path out budget json text 1 → text ≡ deadlock_line json
stuck_search tells before after path out budget json text page =
    stuck_line json text 1 (subst (λ t. IsLine t json text 1) (one_told (told_of_answer page.1) (sym page.6.3)) page.6)

-- a search with a status below 4 printed its line, once its progress was told or not
search_printed : (run : SessionRun) (p : Text) (out : Option Text) (budget : ℕ) (progress as_json : Bool) (own : ℕ) → own < 4 → (line : List ℕ)
    → ((text : List ℕ) → IsProved run.tells.writes run.before run.after p out budget as_json text own → text ≡ line)
    → SessionEnds run → AskToProve run.words p out budget progress as_json → run.status ≡ own
    → (told : Option (List ℕ)) × IsFollowed progress run.tells.terminal run.errors_before told
    × PrintsAlone (record run { errors_before = told }) line own
search_printed run p out budget progress as_json own low line known ends asks is = elim (task_ends run ends asks.2) [
  | inl proves ↦ (proves.1.0, proves.1.1, text_printed own low line known (inl proves.1.2) is)
  | inr fails ↦ absurd (omega (arith, low, is, fails.0))
]

pub proved_safe : ProvedSafetyIsPrinted
proved_safe run p out budget progress as_json =
    search_printed run p out budget progress as_json 0 (omega arith) (no_deadlock_line as_json)
    (safe_search run.tells.writes run.before run.after p out budget as_json)

pub proved_stuck : ProvedDeadlockIsPrinted
proved_stuck run p out budget progress as_json =
    search_printed run p out budget progress as_json 1 (omega arith) (deadlock_line as_json)
    (stuck_search run.tells.writes run.before run.after p out budget as_json)

pub unknown_finishes : ProvedUnknownFinishes
unknown_finishes run p out budget progress as_json program ends asks some held says = elim (task_ends run ends asks.2) [
  | inl proves ↦
      let page = unknown_page says.0 says.1 proves.1.2 says.2 in
      prove_finishes run.tells.writes run.before run.after p out budget as_json page.0 page.1 program says.0 says.1 page.2 page.3 some held
  | inr fails ↦ absurd (unknown_untold says.0 run (λ two. omega (arith, fails.0, two)) fails.1 says.2)
]

-- ---- explain

module _ (run : SessionRun) (p : Text) (e : Option Text) (budget : ℕ) (form : Form) (ends : SessionEnds run) (asks : AskToExplain run.words p e budget form) where
  -- the plain page of an explanation that told a deadlock, and of one with a status below 3
  explain_told : TellsDeadlock run → (text : List ℕ) × (status : ℕ) × IsExplainPage run.before p e budget form text status × PageTells text status
  explain_told says =
      let page = page_that_told (ended (task_ends run ends asks.3)) says in
      let plain = unmapped_told run.before p form asks.2 (IsExplainPage run.before p e budget form) page.0 page.1 page.2 page.3 in
      (plain.0, page.1, plain.1, plain.2)

  explain_plain : (own : ℕ) → own < 3 → run.status ≡ own → (text : List ℕ) × IsExplainPage run.before p e budget form text own
  explain_plain own low is =
      let page = page_printed own (omega (arith, low)) (ended (task_ends run ends asks.3)) is in
      unmapped_page run.before p form asks.2 (IsExplainPage run.before p e budget form) page.0 own page.1 low

pub explained : ExplainedDeadlockIsShown
explained = record {
  given = λ form run p e program evidence ends asks held_p held_e says.
      let page = explain_told run p (Some e) asks.0 form ends asks.1 says in
      explained_shows (run.before p) (run.before e) form page.0 page.1 program evidence page.2 page.3 held_p held_e;
  found = λ run p budget form program ends asks held says.
      let page = explain_told run p None budget form ends asks says in
      first_shows (run.before p) budget form page.0 page.1 program page.2 page.3 held;
}

pub explained_safe : ExplainedSafetyIsTrue
explained_safe = record {
  given = λ run p e budget form program ends asks held zero.
      let page = explain_plain run p (Some e) budget form ends asks 0 (omega arith) zero in
      given_never run.before p e budget form page.0 program page.1 held;
  found = λ run p budget form program ends asks held zero.
      let page = explain_plain run p None budget form ends asks 0 (omega arith) zero in
      first_never (run.before p) budget form page.0 program page.1 held;
}

pub explained_unknown : ExplainedUnknownFinishes
explained_unknown run p e budget form program ends asks some held two =
    let page = explain_plain run p e budget form ends asks 2 (omega arith) two in
    explained_finishes run.before p e budget form page.0 program page.1 some held

-- ---- decide

pub decided_runs : DecidedRunsAreRight
decided_runs = record {
  deadlock = λ run p out progress as_json program ends asks held says.
      let page = page_that_told ((followed run (task_ends run ends asks)).1) says in
      decided_hangs run.tells.writes run.before run.after p out as_json page.0 page.1 program page.2 page.3 held;
  written = λ run p file progress as_json program ends asks writes held one.
      let page = page_printed 1 (omega arith) ((followed run (task_ends run ends asks)).1) one in
      let is = decided_written run.tells.writes run.before run.after p (Some file) as_json page.0 program page.1 held in
      (is.0, is.1, is.2 writes);
  never = λ run p out progress as_json program ends asks held says.
      let page = page_that_reassured ((followed run (task_ends run ends asks)).1) says in
      decided_safe run.tells.writes run.before run.after p out as_json page.0 page.1 program page.2 page.3 held;
  race = λ run p out progress as_json program ends asks held two.
      let page = page_printed 2 (omega arith) ((followed run (task_ends run ends asks)).1) two in
      decided_race run.tells.writes run.before run.after p out as_json page.0 program page.1 held;
}
