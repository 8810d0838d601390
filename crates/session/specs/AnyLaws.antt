-- What follows from how any run ended.
use Rattle.std.specs.Prelude.{◌≡◌, ◌⊎◌, ℕ, Bool, List, Option, Some, None}
use Rattle.std.specs.List.{Contains}
use Rattle.clap.specs.Words.{Text}
use Rattle.calltext.specs.Grammar.{long}
use Rattle.semantics.specs.Headline.{IsStuckRunWithin}
use Rattle.semantics.specs.declared.state.Step.{Step}
use Rattle.options.specs.declared.form.Form.{Form}
use Rattle.checker.specs.Headline.{Shows}
use Rattle.command_line.specs.Requests.{AskFor, Task, to_decide, to_export, to_phases, to_shrink}
use Rattle.command_line.specs.UsualWords.{PlainForm}
use Rattle.session.specs.Asking.{AskToCheck, AskToExplain, AskToExplainBy, AskToProve, AskToReplay, TellsDeadlock}
use Rattle.session.specs.Endings.{FailsEarly, SessionEnds, TaskEnds}
use Rattle.session.specs.PhaseLaws.{AskByPhases}
use Rattle.session.specs.Runs.{SessionRun}
use Rattle.session.specs.Shrinking.{Hangs}
use Rattle.session.specs.SweepLaws.{AskEach, AskUnrolled, HangsFor, IsAmongRanks}
use Rattle.session.specs.Unrolling.{barriers_in}

-- ---- words in their usual order

-- the words ask for this task, and the run ends as it does, or by want of memory before the task is
-- known
abbrev pub IsTaskAnswered : SessionRun → Task → Type 0
IsTaskAnswered run task = (AskFor run.words task × TaskEnds run task) ⊎ FailsEarly run

-- a run of words in their usual order, where no file's name begins with a hyphen, answers their
-- task; a number that isn't given is the usual one
abbrev pub PlainWordsAreAnswered : Type 0
PlainWordsAreAnswered = (run : SessionRun) (task : Task) → SessionEnds run → PlainForm run.words task → IsTaskAnswered run task

-- ---- a deadlock that any run told

-- the words ask to decide the program at a path by one run, also before phases are looked at, or to
-- explain it without an evidence
abbrev pub AskToRun : List Text → Text → Type 0
AskToRun words p =
    ((out : Option Text) × (progress : Bool) × (as_json : Bool) × AskFor words (to_decide p out progress as_json))
    ⊎ (((out : Option Text) × AskByPhases words p out)
    ⊎ (((folder : Text) × AskFor words (to_phases p folder))
    ⊎ ((budget : ℕ) × (form : Form) × AskToExplain words p None budget form)))

-- the words ask for a command, and a deadlock is shown of the program whose path they name, or of
-- what the SPMD text there is unrolled to for a number of ranks that they tell, or of one of the
-- programs that they name, as far as files are told
abbrev pub IsRightlyTold : List Text → (List ℕ → Option (List ℕ)) → Type 0
IsRightlyTold words before =
    ((p : Text) × ((out : Option Text) × (budget : ℕ) × (progress : Bool) × (as_json : Bool) × AskToProve words p out budget progress as_json)
    × ((program : List ℕ) → before p ≡ Some program → (evidence : List ℕ) × Shows program evidence))
    ⊎ (((p : Text) × (e : Text)
    × (((as_json : Bool) × AskToCheck as_json words p e)
    ⊎ (((lines : Bool) × AskToReplay lines words p e) ⊎ (((form : Form) × AskToExplainBy form words p e) ⊎ ((out : Text) × AskFor words (to_export p e out)))))
    × ((program evidence : List ℕ) → before p ≡ Some program → before e ≡ Some evidence → Shows program evidence))
    ⊎ (((p : Text) × (out : Option Text) × (map : Option Text) × AskFor words (to_shrink p out map) × ((program : List ℕ) → before p ≡ Some program → Hangs program))
    ⊎ (((p : Text) × AskToRun words p
    × ((program : List ℕ) → before p ≡ Some program → (steps : List Step) × IsStuckRunWithin long program steps))
    ⊎ (((programs : List Text) × (junit : Option Text) × AskEach words programs junit
    × ((p : Text) × Contains programs p × ((program : List ℕ) → before p ≡ Some program → (steps : List Step) × IsStuckRunWithin long program steps)))
    ⊎ ((p : Text) × (ranks : Text) × (settings : List Text) × (way : Option Text) × AskUnrolled words p ranks settings way
    × ((source : List ℕ) → before p ≡ Some source
    → (barriers : Bool) × (barriers_in way ≡ Some barriers) × (number : ℕ) × IsAmongRanks ranks number × HangsFor p source settings barriers number))))))

-- where any run told a deadlock, its words ask to prove, check, replay, explain, export, shrink,
-- decide, cut or join, and it is true of the program, and of the evidence, that are named
abbrev pub ToldDeadlockIsShown : Type 0
ToldDeadlockIsShown = (run : SessionRun) → SessionEnds run → TellsDeadlock run → IsRightlyTold run.words run.before
