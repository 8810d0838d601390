-- What an evidence, and the end of a search, say of the program's text.
use Rattle.std.proofs.Common.{◌≡◌, ◌<◌, inr, ℕ, List, ap, subst, sym, ◌∙◌, length}
use Rattle.callorder.specs.Programs.{MpiProgram}
use Rattle.callorder.specs.Resolving.{IsTextOf}
use Rattle.clauses.specs.Clauses.{Conjunction}
use Rattle.formula.specs.Numbering.{formula_of}
use Rattle.refutations.specs.Refutations.{Accepts}
use Rattle.prooflog.specs.Refutations.{ClaimedRefutation}
use Rattle.prooflog.specs.Grammar.{IsEvidenceText}
use Rattle.prooflog.specs.declared.evidence.Evidence.{Evidence}
use Rattle.prooflog.specs.declared.evidence.Evidence.TheVariants.{Schedule, Refutation}
use Rattle.prooflog.specs.declared.refutation.Version.TheVariants.{One, Two}
use Rattle.prooflog.specs.Trims.{IsTrimmed}
use Rattle.checker.proofs.Shorter.{refuted_trimmed}
use Rattle.checker.specs.Headline.{IsNeverStuck}
use Rattle.checker.specs.Verdicts.{IsRefutedBy, RefutesProgram, HasFormula}
use Rattle.checker.proofs.Headlines.{refuted_are_never_stuck}
use Rattle.pool.specs.Evidence.{IsAssembled}
use Rattle.pool.specs.States.{PoolState}
use Rattle.prover.specs.declared.answer.Answer.{Answer}
use Rattle.prover.specs.declared.answer.Answer.TheVariants as answers
use Rattle.prover.specs.Answers.{CanFinish, FinishesIfUnknown}
use Rattle.encode.specs.Encodings.{EncodedProgram}
use Rattle.prover.specs.parts.Searches.{HasRunThatFinishes, IsEvidenceOn, IsFormulaOf, IsOver}

-- the text of a refutation of the program's formula, and what it says
pub refuted : (text evidence : List ℕ) (p : MpiProgram) (claim : ClaimedRefutation) → IsTextOf text p → IsEvidenceText evidence (Refutation claim) → IsRefutedBy p claim
    → IsNeverStuck text × RefutesProgram text evidence
refuted text evidence p claim is_text is_evidence by =
    let refutes : RefutesProgram text evidence = record { p = p; claim = claim; text = is_text; refutation = is_evidence; holds = by } in
    (refuted_are_never_stuck text evidence refutes, refutes)

-- what a pool assembles
pub assembled : (held : PoolState) (evidence : Evidence) → IsOver held → IsAssembled held evidence → IsEvidenceOn held.program evidence
assembled held (Schedule steps) over is = is.1
assembled held (Refutation claim) over is =
    record {
      counts = record {
        formula = over.within;
        variables = is.variables ∙ ap (λ (f : Conjunction). f.variables) over.formula_is;
        clauses = is.clauses ∙ ap (λ (f : Conjunction). length f.clauses) over.formula_is;
      };
      accepted = subst (λ (f : Conjunction). Accepts f claim.lines claim.nodes) over.formula_is is.accepted;
      needed = λ two. let never : One ≡ Two = sym is.version ∙ two in absurd (cc);
    }

-- what is trimmed is an evidence still
pub evidence_trimmed : (p : MpiProgram) (evidence trimmed : Evidence) → IsTrimmed evidence trimmed → IsEvidenceOn p evidence → IsEvidenceOn p trimmed
evidence_trimmed p evidence trimmed is on =
    subst (λ (e : Evidence). IsEvidenceOn p e) (sym is.2) (refuted_trimmed p is.0 (subst (λ (e : Evidence). IsEvidenceOn p e) is.1 on))

-- any answer to a program that can finish
pub finishes : (budget : ℕ) (text : List ℕ) (answer : Answer) → (0 < budget → CanFinish text) → FinishesIfUnknown budget text answer
finishes budget text (answers.Unknown why) can = inr can
finishes budget text (answers.NoDeadlock evidence) can = tt
finishes budget text (answers.Deadlock evidence) can = tt
finishes budget text (answers.Refused reason) can = tt

pub can_finish : (text : List ℕ) (p : MpiProgram) → IsTextOf text p → HasRunThatFinishes p → CanFinish text
can_finish text p is_text has = record { p = p; steps = has.0; text = is_text; finished = has.1 }

-- the formula that is made of the program of a text
pub formula_made : (text : List ℕ) (p : MpiProgram) (encoded : EncodedProgram) → IsTextOf text p → encoded.program ≡ p → encoded.formula ≡ formula_of p → HasFormula p → IsFormulaOf text encoded
formula_made text p encoded is_text same formula within =
    record {
      of = subst (IsTextOf text) (sym same) is_text;
      formula_is = formula ∙ ap formula_of (sym same);
      within = subst HasFormula (sym same) within;
    }

-- a pool over that program and that formula
pub over_made : (p : MpiProgram) (encoded : EncodedProgram) (held : PoolState) → encoded.program ≡ p → encoded.formula ≡ formula_of p → HasFormula p
    → held.program ≡ encoded.program → held.formula ≡ encoded.formula → IsOver held
over_made p encoded held same formula within program kept =
    let is : held.program ≡ p = program ∙ same in
    record {
      formula_is = kept ∙ formula ∙ ap formula_of (sym is);
      within = subst HasFormula (sym is) within;
    }
