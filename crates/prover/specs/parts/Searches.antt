-- What the parts of a search hand on.
use Rattle.std.specs.Prelude.{◌≡◌, ℕ, List, Option, Some, None, Bool, true, false}
use Rattle.callorder.specs.Programs.{MpiProgram}
use Rattle.callorder.specs.Resolving.{IsTextOf}
use Rattle.semantics.specs.declared.state.Step.{Step}
use Rattle.semantics.specs.RunEnds.{IsFinishedRun}
use Rattle.semantics.specs.Machine.{IsStuckRun}
use Rattle.formula.specs.Numbering.{formula_of}
use Rattle.encode.specs.Encodings.{EncodedProgram}
use Rattle.prooflog.specs.declared.evidence.Evidence.{Evidence}
use Rattle.prooflog.specs.declared.evidence.Evidence.TheVariants.{Schedule, Refutation}
use Rattle.checker.specs.Verdicts.{HasFormula, IsRefutedBy}
use Rattle.pool.specs.declared.why.Why.{Why}
use Rattle.pool.specs.declared.why.Why.TheVariants.{Memory, Left}
use Rattle.pool.specs.Reasons.{IsSmallest, smaller_of}
use Rattle.pool.specs.States.{PoolState}
use Rattle.prover.specs.declared.answer.Answer.{Answer}
use Rattle.prover.specs.declared.answer.Answer.TheVariants.{Unknown}

-- this is the program of the text with its formula, which is within the limits
pub record IsFormulaOf (text : List ℕ) (encoded : EncodedProgram) : Type 0 where
  pub of : IsTextOf text encoded.program
  pub formula_is : encoded.formula ≡ formula_of encoded.program
  pub within : HasFormula encoded.program

-- the formula is the program's, and within the limits
pub record IsOver (held : PoolState) : Type 0 where
  pub formula_is : held.formula ≡ formula_of held.program
  pub within : HasFormula held.program

-- the evidence is a stuck run of the program, or a refutation of its formula
abbrev pub IsEvidenceOn : MpiProgram → Evidence → Type 0
IsEvidenceOn p (Schedule steps) = IsStuckRun p steps
IsEvidenceOn p (Refutation claim) = IsRefutedBy p claim

-- some run of the program ends with all ranks finished
abbrev pub HasRunThatFinishes : MpiProgram → Type 0
HasRunThatFinishes p = (steps : List Step) × IsFinishedRun p steps

-- some run of the program ends stuck
abbrev pub HasRunThatSticks : MpiProgram → Type 0
HasRunThatSticks p = (steps : List Step) × IsStuckRun p steps

-- of a reason and of the one that is noted, if one is, the smaller one
abbrev pub smallest_with : Option Why → Why → Why
smallest_with None why = why
smallest_with (Some noted) why = smaller_of noted why

-- the reason that counts beside those that are noted: want of memory where it was met, and else
-- that something is left
abbrev pub unnoted : Bool → Why
unnoted true = Memory
unnoted false = Left

-- nothing is known, for the smallest of the reasons for which workers left, with the one that
-- counts beside them
abbrev pub IsUnknownFor : List Why → Bool → Answer → Type 0
IsUnknownFor reasons was_short answer =
    (noted : Option Why) × IsSmallest reasons noted × (answer ≡ Unknown (smallest_with noted (unnoted was_short)))
