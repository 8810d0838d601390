-- The pages of `join` and `decide --phases`, by what one run decides.
use Rattle.std.proofs.Common.{◌≡◌, subst, Bool, true, List, ℕ, Result, Ok, Err, IfOk}
use Rattle.std.specs.Prelude.{Option}
use Rattle.files.specs.Contents.{AreAll}
use Rattle.deciding.specs.Decisions.{IsDecided}
use Rattle.deciding.specs.declared.decision.Decision.{Decision}
use Rattle.deciding.specs.declared.decision.Decision.TheVariants as decisions
use Rattle.deciding.specs.declared.texts.Undecided.{Undecided}
use Rattle.session.specs.Phasing.{IsJoinDecision, IsJoinedPage, IsPhasesPage, is_race}
use Rattle.session.specs.declared.commands.Stop.{Stop}
use Rattle.session.specs.declared.page.Page.{Page}

abbrev pub Files : Type 0
Files = List ℕ → Option (List ℕ)

-- ---- one run's decision

race_decision : (tells : Bool) (old new : Files) (out : Option (List ℕ)) (json : Bool) (program : List ℕ) (d : Result Decision Undecided) (text : List ℕ) (status : ℕ)
    → is_race d ≡ true → IsPhasesPage tells old new out json program text status → IsJoinDecision tells old new out json program d text status
race_decision tells old new out json program (Ok decisions.NoDeadlock) text status race page = cc
race_decision tells old new out json program (Ok (decisions.Deadlock steps)) text status race page = cc
race_decision tells old new out json program (Ok (decisions.Race found)) text status race page = page
race_decision tells old new out json program (Err why) text status race page = cc

-- ---- the page of the phases of a file's program

pub race_joined : (tells : Bool) (old between new : Files) (path : List ℕ) (out : Option (List ℕ)) (json : Bool) (program given : List ℕ) (d : Result Decision Undecided)
    (page : Result Page Stop) → between ≡ old → given ≡ program → AreAll (old path) program → IsDecided program d → is_race d ≡ true
    → IfOk page (λ p. IsPhasesPage tells between new out json given p.text.items p.status) → IfOk page (λ p. IsJoinedPage tells old new path out json p.text.items p.status)
race_joined tells old between new path out json program given d (Ok page) same one all is race shown = (
  program,
  d,
  all,
  is,
  race_decision tells old new out json program d page.text.items page.status race
      (subst (λ (bytes : List ℕ). IsPhasesPage tells old new out json bytes page.text.items page.status) one
      (subst (λ (held : Files). IsPhasesPage tells held new out json given page.text.items page.status) same shown)),
)
race_joined tells old between new path out json program given d (Err e) same one all is race shown = tt
