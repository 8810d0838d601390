-- What is handed out of two texts that were judged.
use Rattle.std.proofs.Common.{◌≡◌, ℕ, List, Ok, refl, sym, subst}
use Rattle.calltext.specs.Grammar.{ProgramText}
use Rattle.callorder.specs.Programs.{MpiProgram}
use Rattle.callorder.specs.Resolving.{IsTextOf}
use Rattle.formula.specs.Numbering.{formula_of}
use Rattle.semantics.specs.declared.state.Step.{Step}
use Rattle.prooflog.specs.declared.evidence.Evidence.TheVariants.{Refutation}
use Rattle.prooflog.specs.Refutations.{ClaimedRefutation}
use Rattle.prooflog.specs.Grammar.{IsEvidenceText}
use Rattle.checker.specs.declared.judging.Judged.TheVariants as judged
use Rattle.checker.specs.declared.refuting.Refuted.{Refuted}
use Rattle.checker.specs.Headline.{Shows}
use Rattle.checker.specs.Verdicts.{AreShown, IsJudged, IsRefutedBy}

pub are_refuted : (program evidence : List ℕ) (p : MpiProgram) (claim : ClaimedRefutation) (found : Refuted) → IsTextOf program p → IsEvidenceText evidence (Refutation claim)
    → found ≡ record { program = p; formula = formula_of p; refutation = claim } → IsRefutedBy p claim → IsJudged program evidence (Ok (judged.Refuted found))
are_refuted program evidence p claim found text refutation is by =
    subst (λ (r : Refuted). IsJudged program evidence (Ok (judged.Refuted r))) (sym is)
    (record { p = p; text = text; refutation = refutation; formula = refl; refuted = by }, refl)

-- what is shown is shown by its text
pub shown_show : (program evidence : List ℕ) (source : ProgramText) (p : MpiProgram) (steps : List Step) → AreShown program evidence source p steps → Shows program evidence
shown_show program evidence source p steps are = record { p = p; steps = steps; text = are.text; schedule = are.schedule; stuck = are.stuck }
