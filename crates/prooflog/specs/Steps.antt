-- The text of a schedule: how each step is written, and the limits. A schedule has one text: its
-- lines, each with its LF.
use Rattle.std.specs.Prelude.{codes, ◌≡◌, ℕ, ◌+◌, ◌≤◌, List, [], ◌∷◌, length, map, All, Bool, true, false}
use Rattle.std.specs.List.{flat_map}
use Rattle.plaintext.specs.Plain.{numeral, line_of}
use Rattle.semantics.specs.declared.state.Step.{Step}
use Rattle.semantics.specs.declared.state.Step.TheVariants as steps
use Rattle.prooflog.specs.declared.step.WrittenStep.{WrittenStep}
use Rattle.prooflog.specs.declared.step.WrittenStep.TheVariants.{Issue, Match, See}

-- A step is written with the rank's number, from 0, and with the numbers of calls, from 1: a call's
-- number is its place, from 0, plus 1.
abbrev pub written : Step → WrittenStep
written (steps.Issue rank buffered) = Issue rank buffered
written (steps.Match send taker) = Match (send + 1) (taker + 1)
written (steps.See send probe) = See (send + 1) (probe + 1)

-- The word `buffered` stands where a send is buffered, and nothing where it isn't.
abbrev pub buffered_words : Bool → List (List ℕ)
buffered_words true = codes "buffered" ∷ []
buffered_words false = []

-- A step's words are `issue R`, `issue R buffered`, `match S T` or `see S P`.
abbrev pub step_words : WrittenStep → List (List ℕ)
step_words (Issue rank buffered) = codes "issue" ∷ numeral rank ∷ buffered_words buffered
step_words (Match send taker) = codes "match" ∷ numeral send ∷ numeral taker ∷ []
step_words (See send probe) = codes "see" ∷ numeral send ∷ numeral probe ∷ []

-- A step has one line.
abbrev pub step_line : WrittenStep → List ℕ
step_line step = line_of (step_words step)

-- The numbers of two calls are from 1 to 2,147,483,647.
abbrev pub AreCallsInRange : ℕ → ℕ → Type 0
AreCallsInRange send finder = (1 ≤ send) × (send ≤ 2147483647) × (1 ≤ finder) × (finder ≤ 2147483647)

-- A step is in range if its rank is from 0 to 2,147,483,647, and the numbers of its calls from 1 to
-- 2,147,483,647.
abbrev pub IsStepInRange : WrittenStep → Type 0
IsStepInRange (Issue rank buffered) = rank ≤ 2147483647
IsStepInRange (Match send taker) = AreCallsInRange send taker
IsStepInRange (See send probe) = AreCallsInRange send probe

-- A schedule, as it is written, has at most 4,096 steps, each in range.
pub record IsWrittenSchedule (steps : List WrittenStep) : Type 0 where
  pub few : length steps ≤ 4096
  pub in_range : All IsStepInRange steps

-- A schedule is within the limits as it is written.
abbrev pub IsSchedule : List Step → Type 0
IsSchedule steps = IsWrittenSchedule (map written steps)

-- The first line of a schedule's text is `evidence 1`, and the second `schedule`.
abbrev pub first_line : List ℕ
first_line = line_of (codes "evidence" ∷ codes "1" ∷ [])

abbrev pub schedule_line : List ℕ
schedule_line = line_of (codes "schedule" ∷ [])

-- Then each step has its line.
abbrev pub schedule_lines : List WrittenStep → List (List ℕ)
schedule_lines steps = first_line ∷ schedule_line ∷ map step_line steps

-- The bytes are the text of the schedule: it is within the limits, and the bytes are its lines, one
-- after another.
pub record IsScheduleText (bytes : List ℕ) (steps : List Step) : Type 0 where
  pub limits : IsSchedule steps
  pub text : bytes ≡ flat_map (λ line. line) (schedule_lines (map written steps))
