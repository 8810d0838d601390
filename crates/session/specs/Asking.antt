-- What words ask for, and what a run of them told.
use Rattle.std.specs.Prelude.{◌≡◌, ◌≢◌, ◌⊎◌, ℕ, Bool, List, ◌++◌, Option, Some}
use Rattle.clap.specs.Words.{Text}
use Rattle.options.specs.declared.form.Form.{Form}
use Rattle.checker.specs.Headline.{Shows}
use Rattle.pool.specs.declared.why.Why.{Why}
use Rattle.pool.specs.declared.why.Why.TheVariants as whys
use Rattle.command_line.specs.Requests.{AskFor, to_check, to_explain, to_prove, to_replay}
use Rattle.session.specs.Endings.{SessionEnds}
use Rattle.session.specs.Lines.{deadlock_line, no_deadlock_line, unknown_line}
use Rattle.session.specs.Runs.{SessionRun}

-- ---- what the words ask for

-- the check of the program at one path by the evidence at another, in whatever number of pieces
abbrev pub AskToCheck : Bool → List Text → Text → Text → Type 0
AskToCheck as_json words p e = (pieces : ℕ) × AskFor words (to_check p e pieces as_json)

-- the replay of the evidence at one path on the program at another
abbrev pub AskToReplay : Bool → List Text → Text → Text → Type 0
AskToReplay lines words p e = AskFor words (to_replay p e lines)

-- to prove the program at a path with this budget, by whatever number of workers and at whatever
-- depth
abbrev pub AskToProve : List Text → Text → Option Text → ℕ → Bool → Bool → Type 0
AskToProve words p out budget progress as_json =
    (workers : ℕ) × (depth : ℕ) × AskFor words (to_prove p out workers depth budget progress as_json)

-- to explain the program at a path, by the evidence at another or by a search with this budget,
-- whatever its number of workers, its depth and the map
abbrev pub AskToExplain : List Text → Text → Option Text → ℕ → Form → Type 0
AskToExplain words p e budget form = (workers : ℕ) × (depth : ℕ) × (map : Option Text) × AskFor words (to_explain p e workers depth budget form map)

-- and by an evidence
abbrev pub AskToExplainBy : Form → List Text → Text → Text → Type 0
AskToExplainBy form words p e = (budget : ℕ) × AskToExplain words p (Some e) budget form

-- ---- what a run told

-- the run ended with this status, or printed this line, plain or as JSON
abbrev pub TellsBy : (Bool → List ℕ) → ℕ → SessionRun → Type 0
TellsBy line own run =
    (run.status ≡ own) ⊎ ((as_json : Bool) × (front : List ℕ) × (run.out_before ≡ Some front) × (run.out_after ≡ Some (front ++ line as_json)))

-- the run ended with the status 1, or printed the line that tells a deadlock
abbrev pub TellsDeadlock : SessionRun → Type 0
TellsDeadlock = TellsBy deadlock_line 1

-- the run ended with the status 0, or printed the line that tells that there is no deadlock
abbrev pub TellsSafety : SessionRun → Type 0
TellsSafety = TellsBy no_deadlock_line 0

-- the run ended with the status 2, or printed the line that tells that no answer is known, for
-- another reason than want of memory
abbrev pub TellsUnknown : SessionRun → Type 0
TellsUnknown run = (why : Why) × (why ≢ whys.Memory) × TellsBy (unknown_line why) 2 run

-- ---- runs on a program and an evidence

-- where such words ask for a program and an evidence, and their run told a deadlock, the evidence
-- shows a stuck run of the program
abbrev pub DeadlockIsShown : (List Text → Text → Text → Type 0) → Type 0
DeadlockIsShown Ask =
    (run : SessionRun) (p e : Text) (program evidence : List ℕ) → SessionEnds run → Ask run.words p e
    → run.before p ≡ Some program → run.before e ≡ Some evidence → TellsDeadlock run → Shows program evidence

-- where the evidence shows a stuck run of the program, the status is 1, or 4 for want of memory, or
-- 5 for a file or an output that fails
abbrev pub ShownIsTold : (List Text → Text → Text → Type 0) → Type 0
ShownIsTold Ask =
    (run : SessionRun) (p e : Text) (program evidence : List ℕ) → SessionEnds run → Ask run.words p e
    → run.before p ≡ Some program → run.before e ≡ Some evidence → Shows program evidence
    → (run.status ≡ 1) ⊎ ((run.status ≡ 4) ⊎ (run.status ≡ 5))
