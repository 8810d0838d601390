-- The text of an evidence, which is a schedule's or a refutation's. A refutation has one text: its
-- lines, each with its LF.
use Rattle.std.specs.Prelude.{codes, ◌≡◌, ℕ, List, [], ◌∷◌, map}
use Rattle.std.specs.List.{flat_map}
use Rattle.plaintext.specs.Plain.{numeral, line_of}
use Rattle.prooflog.specs.declared.evidence.Evidence.{Evidence}
use Rattle.prooflog.specs.declared.evidence.Evidence.TheVariants.{Schedule, Refutation}
use Rattle.prooflog.specs.declared.refutation.Version.{Version}
use Rattle.prooflog.specs.declared.refutation.Version.TheVariants.{One, Two}
use Rattle.prooflog.specs.declared.step.WrittenStep.{WrittenStep}
use Rattle.prooflog.specs.Steps.{written, first_line, schedule_lines, IsScheduleText}
use Rattle.prooflog.specs.Refutations.{ClaimedRefutation, item_line, items, IsRefutation}

-- What evidence texts are written from: a schedule's steps, or a refutation. Numbers may have any
-- size here.
pub data Written : Type 0 where
  as_schedule : List WrittenStep → Written
  as_refutation : ClaimedRefutation → Written

-- The first line of an evidence is `evidence 1`, or `evidence 2`.
abbrev pub heading_line : Version → List ℕ
heading_line One = first_line
heading_line Two = line_of (codes "evidence" ∷ codes "2" ∷ [])

-- The second line of a refutation is `refutation V C`, with the formula's number of variables and
-- of clauses.
abbrev pub refutation_line : ℕ → ℕ → List ℕ
refutation_line variables clauses = line_of (codes "refutation" ∷ numeral variables ∷ numeral clauses ∷ [])

-- After the two headings each item of a refutation has its line.
abbrev pub refutation_lines : ClaimedRefutation → List (List ℕ)
refutation_lines r = heading_line r.version ∷ refutation_line r.variables r.clauses ∷ map item_line (items r)

-- An evidence has these lines. Schedules have version 1 alone.
abbrev pub written_lines : Written → List (List ℕ)
written_lines (as_schedule ss) = schedule_lines ss
written_lines (as_refutation r) = refutation_lines r

-- An evidence is written so.
abbrev pub written_of : Evidence → Written
written_of (Schedule ss) = as_schedule (map written ss)
written_of (Refutation r) = as_refutation r

-- The bytes are the text of the refutation: it is within the limits, and the bytes are its lines,
-- one after another.
pub record IsRefutationText (bytes : List ℕ) (claim : ClaimedRefutation) : Type 0 where
  pub limits : IsRefutation claim
  pub text : bytes ≡ flat_map (λ line. line) (refutation_lines claim)

-- The bytes are the text of the evidence.
abbrev pub IsEvidenceText : List ℕ → Evidence → Type 0
IsEvidenceText bytes (Schedule steps) = IsScheduleText bytes steps
IsEvidenceText bytes (Refutation claim) = IsRefutationText bytes claim
