-- A run told step by step, a line for each step, and what a replay of an evidence on a program
-- tells.
use Rattle.std.specs.Prelude.{codes, ℕ, ◌+◌, Bool, true, false, not, List, [], ◌∷◌, ◌++◌, Option, Some, None, slice_index, ◌≡◌}
use Rattle.plaintext.specs.Plain.{numeral}
use Rattle.calltext.specs.declared.verb.Verb.{Verb}
use Rattle.calltext.specs.declared.verb.Verb.TheVariants as verb
use Rattle.calltext.specs.Verbs.{verb_word}
use Rattle.callorder.specs.declared.calls.Call.{Call}
use Rattle.callorder.specs.declared.calls.Kind.{Kind}
use Rattle.callorder.specs.declared.calls.Kind.TheVariants.{Send, Receive, MatchedProbe, Probe, MatchedReceive, Wait}
use Rattle.callorder.specs.Programs.{MpiProgram, call_at}
use Rattle.semantics.specs.declared.state.Step.{Step}
use Rattle.semantics.specs.declared.state.Step.TheVariants.{Issue, Match, See}
use Rattle.semantics.specs.Machine.{Configuration, opening, after}
use Rattle.prooflog.specs.Steps.{step_line, written}
use Rattle.calltext.specs.Readable.{IsText}
use Rattle.calltext.specs.Grammar.{ProgramText}
use Rattle.checker.specs.Headline.{Shows}
use Rattle.checker.specs.Verdicts.{IsARefutation, IsReason, is_of_refutation}
use Rattle.charts.specs.Lining.{lined_run}
use Rattle.reports.specs.declared.steps.Replayed.{Replayed}
use Rattle.reports.specs.declared.steps.Replayed.TheVariants as replays

-- the verb of a call of this kind, as a program's text has it; a nonblocking call is one that is
-- started
abbrev pub verb_of_kind : Kind ℕ → Verb
verb_of_kind (Send mode blocking message) = verb.Send mode (not blocking)
verb_of_kind (Receive blocking pattern) = verb.Receive (not blocking)
verb_of_kind (MatchedProbe pattern receive) = verb.MatchedProbe
verb_of_kind (Probe pattern) = verb.Probe
verb_of_kind (MatchedReceive blocking) = verb.MatchedReceive (not blocking)
verb_of_kind (Wait operation) = verb.Wait

-- the word of a call that exists
abbrev pub word_of : Option Call → List ℕ
word_of None = []
word_of (Some call) = verb_word (verb_of_kind call.kind)

-- whether the call was issued as a buffered send
abbrev pub issue_words : Bool → List ℕ
issue_words false = codes " call "
issue_words true = codes " buffered call "

-- the line that tells the issue of a call: `issue R call N WORD`, or
-- `issue R buffered call N WORD`; ranks count from 0, calls from 1
abbrev pub told_issue_line : MpiProgram → ℕ → ℕ → Bool → List ℕ
told_issue_line p c rank buffered =
    codes "issue " ++ (numeral rank ++ (issue_words buffered ++ (numeral (c + 1) ++ (codes " " ++ (word_of (call_at p c) ++ codes "\n")))))

-- the line that tells a step in a configuration: that of an issue, `match S T`, or `see S P`
abbrev pub told_line : MpiProgram → Configuration → Step → List ℕ
told_line p m (Issue rank buffered) = told_issue_line p (slice_index m.next rank) rank buffered
told_line p m (Match s t) = step_line (written (Match s t))
told_line p m (See s f) = step_line (written (See s f))

-- the lines that tell steps from a configuration on
abbrev pub told_steps : MpiProgram → Configuration → List Step → List ℕ
told_steps p m [] = []
told_steps p m (step ∷ steps) = told_line p m step ++ told_steps p (after m step) steps

-- the lines that tell a run that ends stuck: a line for each step, and then `stuck`
abbrev pub told_run : MpiProgram → List Step → List ℕ
told_run p steps = told_steps p (opening p) steps ++ codes "stuck\n"

-- the text tells the steps of a run of the program of a text, by the numbers of its calls, or by
-- the lines that they stand in
abbrev pub TellsRun : Bool → List ℕ → MpiProgram → List Step → List ℕ → Type 0
TellsRun false program p steps text = text ≡ told_run p steps
TellsRun true program p steps text = (source : ProgramText) × IsText program source × (text ≡ lined_run program source p steps)

-- A replay that ends stuck is one of a schedule that shows a deadlock, and tells its steps. Else it
-- is told that the evidence is no schedule, or the first reason why it shows none.
abbrev pub TellsReplay : Bool → List ℕ → List ℕ → Replayed → Type 0
TellsReplay lines program evidence (replays.Stuck text) =
    (shown : Shows program evidence) × TellsRun lines program shown.p shown.steps text.items
TellsReplay lines program evidence (replays.Refused reason) = IsReason program evidence reason × (is_of_refutation reason ≡ false)
TellsReplay lines program evidence replays.NotASchedule = IsARefutation program evidence
