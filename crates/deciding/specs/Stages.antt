-- What is told of a decision by one run while it goes on.
use Rattle.std.specs.Prelude.{◌≡◌, ◌⊎◌, ℕ, List, [], ◌∷◌, ◌++◌, Option, codes, length}
use Rattle.std.specs.List.{flat_map}
use Rattle.std.specs.Io.KnownBytes.{Appends}
use Rattle.files.specs.Contents.{AppendsPart}
use Rattle.plaintext.specs.Plain.{numeral}
use Rattle.calltext.specs.Grammar.{long}
use Rattle.callorder.specs.Programs.{MpiProgram}
use Rattle.callorder.specs.Resolving.{IsTextOfWithin}
use Rattle.semantics.specs.declared.state.Step.{Step}
use Rattle.leastrun.specs.LeastBuffered.{IsLeastBufferedRun}
use Rattle.deciding.specs.declared.stages.Stage.{Stage}
use Rattle.deciding.specs.declared.stages.Stage.TheVariants as stages

-- the line that tells a stage
abbrev pub stage_line : Stage → List ℕ
stage_line (stages.Read ranks calls) =
    codes "progress: " ++ (numeral calls ++ (codes " calls of " ++ (numeral ranks ++ codes " ranks are read\n")))
stage_line (stages.Ran steps) = codes "progress: one run has " ++ (numeral steps ++ codes " steps\n")

-- the stage has the numbers of this program's ranks and calls
abbrev pub IsRead : MpiProgram → Stage → Type 0
IsRead p (stages.Read ranks calls) = (ranks ≡ p.ranks) × (calls ≡ length p.calls)
IsRead p (stages.Ran steps) = ⊥

-- there is no stage, or one, which has the number of steps of a run that buffers as little as the
-- policy allows
abbrev pub AreRan : MpiProgram → List Stage → Type 0
AreRan p [] = Unit {0}
AreRan p (stages.Ran steps ∷ []) = (run : List Step) × IsLeastBufferedRun p run × (steps ≡ length run)
AreRan p (stage ∷ later) = ⊥

-- no stage, or those of the program of a text within the long limits
abbrev pub AreStages : List ℕ → List Stage → Type 0
AreStages program [] = Unit {0}
AreStages program (read ∷ later) = (p : MpiProgram) × IsTextOfWithin long program p × IsRead p read × AreRan p later

-- stages of a decision on a program's text are told by their lines, or a beginning of these, where
-- the output failed
abbrev pub TellsStages : List ℕ → Option (List ℕ) → Option (List ℕ) → Type 0
TellsStages program told_old told_new =
    (told : List Stage) × AreStages program told
    × (Appends told_old told_new (flat_map stage_line told) ⊎ AppendsPart told_old told_new (flat_map stage_line told))
