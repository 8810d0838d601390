-- The text of a refutation without lines that are not needed.
use Rattle.std.specs.Prelude.{◌≡◌, ◌≢◌, ℕ, true, false, List, length}
use Rattle.semantics.specs.declared.state.Step.{Step}
use Rattle.trimming.specs.Needed.{are_named}
use Rattle.prooflog.specs.declared.evidence.Evidence.{Evidence}
use Rattle.prooflog.specs.declared.evidence.Evidence.TheVariants.{Schedule, Refutation}
use Rattle.prooflog.specs.declared.fault.EvidenceFault.{EvidenceFault}
use Rattle.prooflog.specs.declared.fault.EvidenceFault.TheVariants as reading
use Rattle.prooflog.specs.declared.trims.TrimFault.{TrimFault}
use Rattle.prooflog.specs.declared.trims.TrimFault.TheVariants as trims
use Rattle.prooflog.specs.Refutations.{ClaimedRefutation}
use Rattle.prooflog.specs.Grammar.{IsEvidenceText}
use Rattle.prooflog.specs.Fault.{HasEvidenceFault}
use Rattle.prooflog.specs.Trims.{trimmed_of}
use Rattle.checker.specs.Verdicts.{RefutesProgram}
use Rattle.reports.specs.declared.trimmed.Shortened.{Shortened}
use Rattle.reports.specs.declared.trimmed.Untrimmed.{Untrimmed}
use Rattle.reports.specs.declared.trimmed.Untrimmed.TheVariants as untrimmed

-- the reason for which a fault is told
abbrev pub read_why : EvidenceFault → Untrimmed
read_why reading.Memory = untrimmed.Memory
read_why fault = untrimmed.Evidence fault

abbrev pub trim_why : TrimFault → Untrimmed
trim_why trims.Memory = untrimmed.Memory
trim_why trims.Number = untrimmed.Number
trim_why trims.NotRefutation = untrimmed.NotRefutation

-- how many proof lines an evidence has
abbrev pub lines_of : Evidence → ℕ
lines_of (Refutation claim) = length claim.lines
lines_of (Schedule steps) = 0

-- The one text is that of a refutation each of whose numbers names a clause or a line, and the
-- other that of the refutation without the lines that are not needed, with the number of lines
-- before and after.
pub record Shortens (evidence : List ℕ) (shortened : Shortened) : Type 0 where
  pub claim : ClaimedRefutation
  pub refutation : IsEvidenceText evidence (Refutation claim)
  pub named : are_named claim.clauses claim.lines claim.nodes ≡ true
  pub text : IsEvidenceText shortened.text.items (Refutation (trimmed_of claim))
  pub before : shortened.before ≡ length claim.lines
  pub after : shortened.after ≡ length (trimmed_of claim).lines

-- Why there is no such text: the bytes are no evidence's text; a number of the refutation names
-- nothing; it is a schedule. Want of memory may come at any time.
abbrev pub IsWhyUntrimmed : List ℕ → Untrimmed → Type 0
IsWhyUntrimmed evidence untrimmed.Memory = Unit {0}
IsWhyUntrimmed evidence (untrimmed.Evidence fault) = HasEvidenceFault evidence fault × (fault ≢ reading.Memory)
IsWhyUntrimmed evidence untrimmed.Number =
    (claim : ClaimedRefutation) × IsEvidenceText evidence (Refutation claim) × (are_named claim.clauses claim.lines claim.nodes ≡ false)
IsWhyUntrimmed evidence untrimmed.NotRefutation = (steps : List Step) × IsEvidenceText evidence (Schedule steps)

-- Each program that the one text refutes, the other does.
abbrev pub ShortenedRefute : Type 0
ShortenedRefute =
    (program evidence : List ℕ) (s : Shortened) → Shortens evidence s → RefutesProgram program evidence → RefutesProgram program s.text.items
