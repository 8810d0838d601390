-- The page of `explain`, over the bytes of its files, where those are told.
use Rattle.std.specs.Prelude.{◌≡◌, ◌++◌, ℕ, codes, Bool, true, false, List, Option, Some, None, Result, Ok, Err, ◌⊎◌}
use Rattle.std.specs.Global.{Vec}
use Rattle.files.specs.Contents.{AreAll}
use Rattle.deciding.specs.Decisions.{IsDecided}
use Rattle.deciding.specs.declared.decision.Decision.{Decision}
use Rattle.deciding.specs.declared.decision.Decision.TheVariants as decisions
use Rattle.deciding.specs.declared.decision.CallerRace.{CallerRace}
use Rattle.deciding.specs.declared.texts.Undecided.{Undecided}
use Rattle.deciding.specs.declared.texts.Undecided.TheVariants as undecided
use Rattle.checker.specs.declared.reason.Reason.{Reason}
use Rattle.checker.specs.declared.reason.Reason.TheVariants as reasons
use Rattle.prover.specs.Answers.{IsAnswer, FinishesIfUnknown}
use Rattle.prover.specs.declared.answer.Answer.{Answer}
use Rattle.prover.specs.declared.answer.Answer.TheVariants as answers
use Rattle.options.specs.declared.form.Form.{Form}
use Rattle.options.specs.declared.form.Form.TheVariants as forms
use Rattle.reports.specs.Explanations.{Explains, IsRunDrawn, TellsSizes}
use Rattle.reports.specs.declared.explained.Explained.{Explained}
use Rattle.reports.specs.declared.explained.Explained.TheVariants as explanations
use Rattle.session.specs.declared.told.Outcome.TheVariants as told
use Rattle.session.specs.declared.page.Want.{Want}
use Rattle.session.specs.declared.page.Want.TheVariants as want
use Rattle.session.specs.Lines.{IsLine, Says, object_with, told_status}
use Rattle.session.specs.Pages.{IsEither, IsProgramFile, IsRacePage}

-- the form is a JSON object
abbrev pub is_object : Form → Bool
is_object forms.Object = true
is_object _ = false

-- the line that tells why a text is refused, and below it what helps, in words that aren't stated
-- here; the status is the line's
abbrev pub IsHelped : Reason → List ℕ → ℕ → Type 0
IsHelped reason text status = (line : List ℕ) × (below : List ℕ) × IsLine (told.Refused reason) false line status × (text ≡ line ++ below)

-- the JSON object that tells why a text is refused, with what helps as its last member, whose text
-- isn't stated here; the status is the answer's
abbrev pub IsHelpedObject : Reason → List ℕ → ℕ → Type 0
IsHelpedObject reason text status =
    (words : List ℕ) × (help : List ℕ) × Says (told.Refused reason) words
    × (text ≡ object_with words (told_status (told.Refused reason)) (codes "help") help) × (status ≡ told_status (told.Refused reason))

-- why a text is refused is told with what helps, as a JSON object or not
abbrev pub IsHelpedAs : Bool → Reason → List ℕ → ℕ → Type 0
IsHelpedAs false reason text status = IsHelped reason text status
IsHelpedAs true reason text status = IsHelpedObject reason text status

-- the page of an explanation: its text, with the status of the answer, or why it is refused, and
-- what helps
abbrev pub IsExplanationPage : Form → Explained → List ℕ → ℕ → Type 0
IsExplanationPage form (explanations.NoDeadlock words) text status = (text ≡ words.items) × (status ≡ 0)
IsExplanationPage form (explanations.Deadlock words) text status = (text ≡ words.items) × (status ≡ 1)
IsExplanationPage form (explanations.Refused reason) text status = IsHelpedAs (is_object form) reason text status

-- the page of `explain` with an evidence: that of the explanation of what the evidence of one file
-- shows of the program of the other
abbrev pub IsExplained : Option (List ℕ) → Option (List ℕ) → Form → List ℕ → ℕ → Type 0
IsExplained program_file evidence_file form text status =
    (program : List ℕ) × (evidence : List ℕ) × (x : Explained) × AreAll program_file program × AreAll evidence_file evidence
    × Explains form program evidence x × IsExplanationPage form x text status

-- the page tells what the evidence shows of the program: that no run of it ends stuck, with the
-- status 0, or that one does, with the status 1
abbrev pub IsFoundPage : Form → List ℕ → List ℕ → List ℕ → ℕ → Type 0
IsFoundPage form program evidence text status =
    ((words : Vec ℕ) × Explains form program evidence (explanations.NoDeadlock words) × (text ≡ words.items) × (status ≡ 0))
    ⊎ ((words : Vec ℕ) × Explains form program evidence (explanations.Deadlock words) × (text ≡ words.items) × (status ≡ 1))

-- the page of an answer of a search, whose evidence is explained, where it has one; else the line
-- that tells that none is known; and of a program that is too large for a search, or refused for
-- want of memory, the page of the race that one run told
abbrev pub IsAnswerPage : Form → List ℕ → CallerRace → Answer → List ℕ → ℕ → Type 0
IsAnswerPage form program race (answers.NoDeadlock evidence) text status = IsFoundPage form program evidence text status
IsAnswerPage form program race (answers.Deadlock evidence) text status = IsFoundPage form program evidence text status
IsAnswerPage form program race (answers.Unknown why) text status = IsLine (told.Unknown why) (is_object form) text status
IsAnswerPage form program race (answers.Refused reason) text status = IsRacePage (is_object form) program race text status

-- the page of a program whose messages may race: that of an answer to it; and where none is known,
-- for another reason than want of memory, and the budget was above 0, some run of the program
-- finishes
abbrev pub IsSearched : ℕ → Form → List ℕ → CallerRace → List ℕ → ℕ → Type 0
IsSearched budget form program race text status =
    (a : Answer) × IsAnswer program a × FinishesIfUnknown budget program a × IsAnswerPage form program race a text status

-- the page that tells why a program isn't decided, and what helps
abbrev pub IsUndecidedPage : Bool → Undecided → List ℕ → ℕ → Type 0
IsUndecidedPage json undecided.Memory text status = ⊥
IsUndecidedPage json (undecided.Read fault) text status = IsHelpedAs json (reasons.Read fault) text status
IsUndecidedPage json (undecided.Resolve fault) text status = IsHelpedAs json (reasons.Resolve fault) text status

-- the page of what one run decides, explained: the numbers of a program that never gets stuck, the
-- run that does, or the page of a search; or why the program isn't decided, and what helps
abbrev pub IsDecisionExplained : ℕ → Form → List ℕ → Result Decision Undecided → List ℕ → ℕ → Type 0
IsDecisionExplained budget form program (Ok decisions.NoDeadlock) text status = TellsSizes form program text × (status ≡ 0)
IsDecisionExplained budget form program (Ok (decisions.Deadlock steps)) text status = IsRunDrawn form program steps.items text × (status ≡ 1)
IsDecisionExplained budget form program (Ok (decisions.Race race)) text status = IsSearched budget form program race text status
IsDecisionExplained budget form program (Err why) text status = IsUndecidedPage (is_object form) why text status

-- the page of `explain` without an evidence: that of what one run decides of the program of the
-- file
abbrev pub IsDecidedFirst : Option (List ℕ) → ℕ → Form → List ℕ → ℕ → Type 0
IsDecidedFirst program_file budget form text status =
    (program : List ℕ) × (d : Result Decision Undecided) × AreAll program_file program × IsDecided program d
    × IsDecisionExplained budget form program d text status

-- the page of `explain`, over what the files hold, with an evidence or without one
abbrev pub IsExplainPage : (List ℕ → Option (List ℕ)) → List ℕ → Option (List ℕ) → ℕ → Form → List ℕ → ℕ → Type 0
IsExplainPage held program None budget form = IsDecidedFirst (held program) budget form
IsExplainPage held program (Some evidence) budget form = IsExplained (held program) (held evidence) form

-- the file of `explain` that failed is one that is named, and it isn't told to be read
abbrev pub IsExplainFile : (List ℕ → Bool) → List ℕ → Option (List ℕ) → List ℕ → Type 0
IsExplainFile reads program None = IsProgramFile reads program
IsExplainFile reads program (Some evidence) = IsEither reads program evidence

-- without an evidence want of memory is told as of a search
abbrev pub explain_want : Option (List ℕ) → Want
explain_want None = want.Unknown
explain_want (Some evidence) = want.Refused
