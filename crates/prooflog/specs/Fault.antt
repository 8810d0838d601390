-- What is wrong with bytes that are no evidence's text: their first faulty line, and why it can't
-- stand there.
use Rattle.std.specs.Prelude.{◌≡◌, ◌≢◌, ℕ, ◌+◌, ◌-◌, ◌≤◌, IsTrue, List, [], ◌∷◌, ◌++◌, length, take, All}
use Rattle.plaintext.specs.Fronts.{to_end, BeginsWith, CanBegin, IsFirstFaultyLine}
use Rattle.refutations.specs.Proofs.{is_tree}
use Rattle.prooflog.specs.declared.fault.EvidenceFault.{EvidenceFault}
use Rattle.prooflog.specs.declared.fault.EvidenceFault.TheVariants.{Memory, Syntax, Range, TooLarge}
use Rattle.prooflog.specs.declared.evidence.Evidence.{Evidence}
use Rattle.prooflog.specs.Steps.{IsStepInRange}
use Rattle.prooflog.specs.Refutations.{IsInRangeRefutation, IsSmallRefutation}
use Rattle.prooflog.specs.Grammar.{Written, as_schedule, as_refutation, written_lines, IsEvidenceText}

-- The nodes of a refutation are those of one tree.
abbrev pub IsShaped : Written → Type 0
IsShaped (as_schedule ss) = Unit {0}
IsShaped (as_refutation r) = IsTrue (is_tree r.nodes)

-- Besides that, all numbers are in range.
abbrev pub IsRanged : Written → Type 0
IsRanged (as_schedule ss) = All IsStepInRange ss
IsRanged (as_refutation r) = IsInRangeRefutation r

-- What stands on so many of the first lines is not too large: at most 4,096 steps, or so few proof
-- lines and so few nodes, and no node too deep. The two headings stand above all, and the line
-- `tree` above the nodes.
abbrev pub IsFew : ℕ → Written → Type 0
IsFew count (as_schedule ss) = length (take (count - 2) ss) ≤ 4096
IsFew count (as_refutation r) = IsSmallRefutation (take (count - 2) r.lines) (take (count - (3 + length r.lines)) r.nodes)

-- Some evidence with numbers of any size and any count of lines begins so.
abbrev pub HasEvidenceShape : List (List ℕ) → Type 0
HasEvidenceShape = CanBegin Written IsShaped written_lines

-- Some evidence with numbers in range and any count of lines begins so.
abbrev pub IsInEvidenceRange : List (List ℕ) → Type 0
IsInEvidenceRange = CanBegin Written IsRanged written_lines

-- Some evidence with numbers in range begins so, and so far it is not too large.
abbrev pub CanGoOnAsEvidence : List (List ℕ) → Type 0
CanGoOnAsEvidence front = (w : Written) × (IsRanged w × IsFew (length front) w) × BeginsWith front (to_end (written_lines w))

-- Why the line can't stand after those before it. Lines count from 1.
abbrev pub IsWhy : EvidenceFault → List (List ℕ) → List ℕ → Type 0
IsWhy Memory before line = ⊥
IsWhy (Syntax number) before line = (number ≡ length before + 1) × ¬ HasEvidenceShape (before ++ line ∷ [])
IsWhy (Range number) before line = (number ≡ length before + 1) × HasEvidenceShape (before ++ line ∷ []) × ¬ IsInEvidenceRange (before ++ line ∷ [])
IsWhy TooLarge before line = IsInEvidenceRange (before ++ line ∷ [])

-- The bytes have this fault: their first faulty line, and why. Want of memory may always be.
abbrev pub HasEvidenceFault : List ℕ → EvidenceFault → Type 0
HasEvidenceFault bytes Memory = Unit {0}
HasEvidenceFault bytes fault = (before : List (List ℕ)) × (line : List ℕ) × IsFirstFaultyLine CanGoOnAsEvidence bytes before line × IsWhy fault before line

-- A text has one value.
abbrev pub OneEvidenceValue : Type 0
OneEvidenceValue = (bytes : List ℕ) (a b : Evidence) → IsEvidenceText bytes a → IsEvidenceText bytes b → a ≡ b

-- A text has no fault but want of memory.
abbrev pub EvidenceTextHasNoFault : Type 0
EvidenceTextHasNoFault = (bytes : List ℕ) (evidence : Evidence) (fault : EvidenceFault) → IsEvidenceText bytes evidence → HasEvidenceFault bytes fault → fault ≡ Memory

-- Bytes have at most one fault besides want of memory.
abbrev pub OneEvidenceFault : Type 0
OneEvidenceFault = (bytes : List ℕ) (a b : EvidenceFault) → HasEvidenceFault bytes a → HasEvidenceFault bytes b → a ≢ Memory → b ≢ Memory → a ≡ b
