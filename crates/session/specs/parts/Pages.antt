-- What inner functions promise one another, beside `specs/Pages.antt`.
use Rattle.std.specs.Prelude.{◌≡◌, ℕ, List, Option, Some, Result, Ok, Err, IsTrue}
use Rattle.deciding.specs.declared.decision.Decision.{Decision}
use Rattle.deciding.specs.declared.decision.Decision.TheVariants as decisions
use Rattle.deciding.specs.declared.texts.Undecided.{Undecided}
use Rattle.prover.specs.declared.answer.Answer.{Answer}
use Rattle.session.specs.declared.commands.Stop.{Stop}
use Rattle.session.specs.declared.commands.Stop.TheVariants as stop
use Rattle.session.specs.Pages.{has_evidence}

-- memory ran out before any file had changed, or one of these files failed
abbrev pub StopsBy : (List ℕ → Type 0) → (List ℕ → Option (List ℕ)) → (List ℕ → Option (List ℕ)) → Stop → Type 0
StopsBy IsFile old new stop.Memory = new ≡ old
StopsBy IsFile old new (stop.File path) = IsFile path.now

-- the file at this path is the one that is named for the evidence of an answer that has one
abbrev pub IsEvidenceFile : Answer → Option (List ℕ) → List ℕ → Type 0
IsEvidenceFile a out path = (out ≡ Some path) × IsTrue (has_evidence a)

-- the file at this path is the one that is named for the schedule of a deadlock
abbrev pub IsScheduleFile : Result Decision Undecided → Option (List ℕ) → List ℕ → Type 0
IsScheduleFile (Ok (decisions.Deadlock steps)) out path = out ≡ Some path
IsScheduleFile (Ok decisions.NoDeadlock) out path = ⊥
IsScheduleFile (Ok (decisions.Race race)) out path = ⊥
IsScheduleFile (Err why) out path = ⊥
