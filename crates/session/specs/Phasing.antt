-- The pages of `phases`, `join` and `decide --phases`.
use Rattle.std.specs.Prelude.{◌≡◌, ◌≢◌, ◌⊎◌, ℕ, ◌+◌, ◌-◌, ◌<◌, ◌≤◌, Bool, true, false, IsTrue, List, [], ◌∷◌, ◌++◌, length, map, replicate, codes, decimal, Option, Some, Result, Ok, Err, slice_get}
use Rattle.std.specs.List.{AllByRecursion, count_by, flat_map}
use Rattle.calltext.specs.Grammar.{long}
use Rattle.callorder.specs.Programs.{MpiProgram}
use Rattle.callorder.specs.Resolving.{IsTextOfWithin}
use Rattle.phases.specs.Rests.{IsFront, behind}
use Rattle.semantics.specs.Headline.{IsNeverStuckWithin, IsStuckRunWithin}
use Rattle.semantics.specs.declared.state.Step.{Step}
use Rattle.std.specs.Global.{Vec}
use Rattle.files.specs.Contents.{AreAll}
use Rattle.deciding.specs.Decisions.{IsDecided, schedule_text}
use Rattle.deciding.specs.declared.decision.Decision.{Decision}
use Rattle.deciding.specs.declared.decision.Decision.TheVariants as decisions
use Rattle.deciding.specs.declared.texts.Undecided.{Undecided}
use Rattle.deciding.specs.declared.texts.Undecided.TheVariants as undecided
use Rattle.cutting.specs.declared.whole.Phases.{Phases}
use Rattle.session.specs.Lines.{BeginsWithFront, IsLine, line_text}
use Rattle.session.specs.Pages.{IsDecideFile, IsDecisionPage, IsProgramFile, IsScheduled, IsUnreadFile, IsWritten}
use Rattle.session.specs.Ties.{AreToldTies}
use Rattle.session.specs.declared.told.Outcome.TheVariants as told

-- ---- what phases tell

-- one run doesn't decide, since messages may race
abbrev pub is_race : Result Decision Undecided → Bool
is_race (Ok (decisions.Race race)) = true
is_race (Ok decisions.NoDeadlock) = false
is_race (Ok (decisions.Deadlock steps)) = false
is_race (Err why) = false

-- the line that tells that phases don't decide the program, and which of them lacks what
abbrev pub IsLackingLine : Bool → List ℕ → ℕ → Type 0
IsLackingLine json text status =
    (words : List ℕ) × BeginsWithFront words (codes "unknown phases") × (text ≡ line_text json words 2) × (status ≡ 2)

-- Phases show that no run of the program gets stuck, and that is told; or a run that does, whose
-- schedule is written; or what they lack is told. But for a schedule all files are as before.
abbrev pub IsPhasesPage : Bool → (List ℕ → Option (List ℕ)) → (List ℕ → Option (List ℕ)) → Option (List ℕ) → Bool → List ℕ → List ℕ → ℕ → Type 0
IsPhasesPage tells old new out json program text status =
    (IsNeverStuckWithin long program × (new ≡ old) × IsLine told.NoDeadlock json text status)
    ⊎ (((steps : List Step) × IsStuckRunWithin long program steps × IsWritten tells old new out (schedule_text steps) × IsLine told.Deadlock json text status)
    ⊎ ((new ≡ old) × IsLackingLine json text status))

-- one run's decision is told, and the schedule of a deadlock is written; where messages may race,
-- the same of what phases tell
abbrev pub IsJoinDecision : Bool → (List ℕ → Option (List ℕ)) → (List ℕ → Option (List ℕ)) → Option (List ℕ) → Bool → List ℕ → Result Decision Undecided → List ℕ → ℕ → Type 0
IsJoinDecision tells old new out json program (Ok (decisions.Race race)) text status = IsPhasesPage tells old new out json program text status
IsJoinDecision tells old new out json program (Ok decisions.NoDeadlock) text status =
    IsScheduled tells old new out (Ok decisions.NoDeadlock) × IsDecisionPage json program (Ok decisions.NoDeadlock) text status
IsJoinDecision tells old new out json program (Ok (decisions.Deadlock steps)) text status =
    IsScheduled tells old new out (Ok (decisions.Deadlock steps)) × IsDecisionPage json program (Ok (decisions.Deadlock steps)) text status
IsJoinDecision tells old new out json program (Err why) text status =
    IsScheduled tells old new out (Err why) × IsDecisionPage json program (Err why) text status

-- the page of `join`, and of `decide --phases`: so the program of the file is decided
abbrev pub IsJoinedPage : Bool → (List ℕ → Option (List ℕ)) → (List ℕ → Option (List ℕ)) → List ℕ → Option (List ℕ) → Bool → List ℕ → ℕ → Type 0
IsJoinedPage tells old new path out json text status =
    (program : List ℕ) × (d : Result Decision Undecided) × AreAll (old path) program × IsDecided program d
    × IsJoinDecision tells old new out json program d text status

-- the path of a file in a folder
abbrev pub path_in : List ℕ → List ℕ → List ℕ
path_in folder name = folder ++ (codes "/" ++ name)

-- the file that failed is one that can fail in `decide`; or it is told as its folder: it has the
-- order of the phases, and no file has changed
abbrev pub IsJoinFile : (List ℕ → Bool) → List ℕ → List ℕ → Option (List ℕ) → (List ℕ → Option (List ℕ)) → (List ℕ → Option (List ℕ)) → List ℕ → Type 0
IsJoinFile reads program folder out old new path =
    IsDecideFile reads program out old new path ⊎ ((path ≡ folder) × IsUnreadFile reads (path_in folder (codes "phases")) × (new ≡ old))

-- ---- cutting

-- no file has changed but those in the folder
abbrev pub ChangesWithin : List ℕ → (List ℕ → Option (List ℕ)) → (List ℕ → Option (List ℕ)) → Type 0
ChangesWithin folder old new = (path : List ℕ) → ((name : List ℕ) → path ≢ path_in folder name) → new path ≡ old path

-- A phase that differs from all others: its text, and whether it has to be proved.
pub record Part : Type 0 where
  pub text : List ℕ
  pub job : Bool

-- What a program is cut into: the phases that differ, and of each phase, one after another, the
-- number of its like among these, from 1.
pub record PhaseCut : Type 0 where
  pub parts : List Part
  pub order : List ℕ

-- One run tells of a phase that it is decided, or that its text is none of a program, unless it has
-- to be proved: then messages of that run may race. Want of memory tells nothing.
abbrev pub IsPartOfCut : Part → Type 0
IsPartOfCut part = (d : Result Decision Undecided) × IsDecided part.text d × (d ≢ Err undecided.Memory) × (is_race d ≡ part.job)

-- each number of the order is that of a phase, and each phase is in the order
pub record IsPhaseCut (cut : PhaseCut) : Type 0 where
  pub parts : AllByRecursion IsPartOfCut cut.parts
  pub known : (place number : ℕ) → slice_get cut.order place ≡ Some number → (0 < number) × (number ≤ length cut.parts)
  pub used : (number : ℕ) → 0 < number → number ≤ length cut.parts → (place : ℕ) × (slice_get cut.order place ≡ Some number)

-- how many have to be proved
abbrev pub count_jobs : List Part → ℕ
count_jobs parts = count_by (λ part. part.job) parts

-- the line that tells how many phases there are, how many of them differ, and how many of those
-- have to be proved
abbrev pub cut_line : ℕ → ℕ → ℕ → List ℕ
cut_line phases different jobs =
    codes "phases " ++ (decimal phases ++ (codes ", different " ++ (decimal different ++ (codes ", to prove " ++ (decimal jobs ++ codes "\n")))))

-- that line of a cut of the program of a text, and below it what is told of phases that are too
-- large for a search
abbrev pub IsCutLine : List ℕ → MpiProgram → PhaseCut → List ℕ → ℕ → Type 0
IsCutLine program p cut text status =
    (told : List ℕ) × AreToldTies program p told × (text ≡ cut_line (length cut.order) (length cut.parts) (count_jobs cut.parts) ++ told) × (status ≡ 0)

-- ---- what a cut makes up

-- Of each of these texts, within the long limits, there is the program.
abbrev pub ArePrograms : List (Vec ℕ) → List MpiProgram → Type 0
ArePrograms texts programs =
    (place : ℕ) (text : Vec ℕ) → slice_get texts place ≡ Some text → (p : MpiProgram) × (slice_get programs place ≡ Some p) × IsTextOfWithin long text.items p

-- the part is the program of this number, from 0, and its calls are in front of this one
abbrev pub IsDealt : List MpiProgram → ℕ → MpiProgram → MpiProgram → Type 0
IsDealt programs number q part = (slice_get programs number ≡ Some part) × IsFront q part

-- The programs of these numbers, from 0, are taken off the first program, each off what those
-- before it leave, and the second program is what all leave.
abbrev pub AreDealtInOrder : List MpiProgram → MpiProgram → List ℕ → MpiProgram → Type 0
AreDealtInOrder programs p [] q = p ≡ q
AreDealtInOrder programs p (number ∷ order) q = (part : MpiProgram) × IsDealt programs number p part × AreDealtInOrder programs (behind p part) order q

-- no two of the texts are the same
abbrev pub AreApart : List (Vec ℕ) → Type 0
AreApart texts = (i j : ℕ) (a b : Vec ℕ) → slice_get texts i ≡ Some a → slice_get texts j ≡ Some b → a.items ≡ b.items → i ≡ j

-- The texts make up the program in this order, in which numbers are from 0, as phases are dealt by
-- `join`: at each rank the calls of each are the first that those before it leave, and none is left
-- behind the last; and the texts differ.
pub record MakeUpProgram (p : MpiProgram) (phases : Phases) : Type 0 where
  pub programs : List MpiProgram
  pub left : MpiProgram
  pub texts : ArePrograms phases.texts.items programs
  pub dealt : AreDealtInOrder programs p phases.order.items left
  pub nothing : left.calls ≡ []
  pub apart : AreApart phases.texts.items

-- ---- the files of a cut

-- the name of a file of a phase: the phase's number, from 1, with four digits or more, and what
-- stands behind them
abbrev pub file_name : ℕ → List ℕ → List ℕ
file_name number end = replicate (4 - length (decimal number)) 48 ++ (decimal number ++ end)

abbrev pub text_path : List ℕ → ℕ → List ℕ
text_path folder number = path_in folder (file_name number (codes ".mpi"))

-- the line of a phase in the list of those that have to be proved, where it is one: its path
abbrev pub job_line : List ℕ → ℕ → Bool → List ℕ
job_line folder number true = text_path folder number ++ codes "\n"
job_line folder number false = []

-- the lines of phases, the first of which has this number
abbrev pub job_lines : List ℕ → ℕ → List Part → List ℕ
job_lines folder number [] = []
job_lines folder number (part ∷ parts) = job_line folder number part.job ++ job_lines folder (number + 1) parts

-- numbers, one a line
abbrev pub order_lines : List ℕ → List ℕ
order_lines order = flat_map (λ number. decimal number ++ codes "\n") order

-- a file that is written
pub record FileText : Type 0 where
  pub path : List ℕ
  pub text : List ℕ

abbrev pub text_files : List ℕ → ℕ → List Part → List FileText
text_files folder number [] = []
text_files folder number (part ∷ parts) = record { path = text_path folder number; text = part.text } ∷ text_files folder (number + 1) parts

-- the text of each phase that differs; the paths of those that have to be proved; and the order
abbrev pub cut_files : List ℕ → PhaseCut → List FileText
cut_files folder cut =
    text_files folder 1 cut.parts
    ++ (record { path = path_in folder (codes "jobs"); text = job_lines folder 1 cut.parts }
    ∷ record { path = path_in folder (codes "phases"); text = order_lines cut.order } ∷ [])

-- each file has its text
abbrev pub Hold : List FileText → (List ℕ → Option (List ℕ)) → Type 0
Hold files new = (place : ℕ) (file : FileText) → slice_get files place ≡ Some file → new file.path ≡ Some file.text

-- no other file has changed
abbrev pub ChangesThese : List FileText → (List ℕ → Option (List ℕ)) → (List ℕ → Option (List ℕ)) → Type 0
ChangesThese files old new =
    (path : List ℕ) → ((place : ℕ) (file : FileText) → slice_get files place ≡ Some file → path ≢ file.path) → new path ≡ old path

-- of each phase there is its text, and whether it has to be proved
abbrev pub HaveTexts : List Part → List (Vec ℕ) → Type 0
HaveTexts parts texts = map (λ part. part.text) parts ≡ map (λ text. text.items) texts

-- the cut has these texts, and they follow one another in this order, in which numbers are from 0
pub record IsCutOf (phases : Phases) (cut : PhaseCut) : Type 0 where
  pub texts : HaveTexts cut.parts phases.texts.items
  pub order : cut.order ≡ map (λ number. number + 1) phases.order.items

-- The bytes are the text of a program, within the long limits, that the phases make up in this
-- order.
pub record IsWhole (program : List ℕ) (cut : PhaseCut) : Type 0 where
  pub p : MpiProgram
  pub phases : Phases
  pub is_text : IsTextOfWithin long program p
  pub of : IsCutOf phases cut
  pub made : MakeUpProgram p phases

-- ---- the page of a cut

-- the program is cut, how it is cut is told, and the files of the cut are written, as far as their
-- set tells what is written; no other file has changed
pub record IsWrittenCut (tells : Bool) (old new : List ℕ → Option (List ℕ)) (folder program text : List ℕ) (status : ℕ) : Type 0 where
  pub cut : PhaseCut
  pub is : IsPhaseCut cut
  pub whole : IsWhole program cut
  pub line : IsCutLine program whole.p cut text status
  pub files : IsTrue tells → Hold (cut_files folder cut) new
  pub others : ChangesThese (cut_files folder cut) old new

-- one run's decision is told, and no file has changed; where messages may race, the program is cut
abbrev pub IsCutDecision : Bool → (List ℕ → Option (List ℕ)) → (List ℕ → Option (List ℕ)) → List ℕ → List ℕ → Result Decision Undecided → List ℕ → ℕ → Type 0
IsCutDecision tells old new folder program (Ok (decisions.Race race)) text status = IsWrittenCut tells old new folder program text status
IsCutDecision tells old new folder program (Ok decisions.NoDeadlock) text status =
    (new ≡ old) × IsDecisionPage false program (Ok decisions.NoDeadlock) text status
IsCutDecision tells old new folder program (Ok (decisions.Deadlock steps)) text status =
    (new ≡ old) × IsDecisionPage false program (Ok (decisions.Deadlock steps)) text status
IsCutDecision tells old new folder program (Err why) text status = (new ≡ old) × IsDecisionPage false program (Err why) text status

-- the page of `phases`: so the program of the file is cut
abbrev pub IsCutPage : Bool → (List ℕ → Option (List ℕ)) → (List ℕ → Option (List ℕ)) → List ℕ → List ℕ → List ℕ → ℕ → Type 0
IsCutPage tells old new path folder text status =
    (program : List ℕ) × (d : Result Decision Undecided) × AreAll (old path) program × IsDecided program d
    × IsCutDecision tells old new folder program d text status

-- the file that failed is the program's, and no file has changed; or it is told as the folder, and
-- one there can't be written
abbrev pub IsCutFile : (List ℕ → Bool) → List ℕ → List ℕ → (List ℕ → Option (List ℕ)) → (List ℕ → Option (List ℕ)) → List ℕ → Type 0
IsCutFile reads program folder old new path = (IsProgramFile reads program path × (new ≡ old)) ⊎ (path ≡ folder)
