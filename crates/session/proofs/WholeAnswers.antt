-- IsAnswer, replays, formulas, explanations, proofs and smaller programs of texts as far as they
-- were read are those of the whole texts.
use Rattle.std.proofs.Common.{ℕ, Bool, true, false, List, inl, inr}
use Rattle.options.specs.declared.form.Form.{Form}
use Rattle.checker.specs.declared.reason.Reason.{Reason}
use Rattle.prover.specs.Answers.{IsAnswer, CanFinish, FinishesIfUnknown, HasNoFormulaText}
use Rattle.reports.specs.Telling.{TellsReplay}
use Rattle.prover.specs.declared.answer.Answer.{Answer}
use Rattle.prover.specs.declared.answer.Answer.TheVariants as answers
use Rattle.reports.specs.declared.steps.Replayed.{Replayed}
use Rattle.reports.specs.declared.steps.Replayed.TheVariants as replays
use Rattle.prooflog.specs.declared.evidence.Evidence.TheVariants.{Schedule, Refutation}
use Rattle.reports.specs.Explanations.{Explains}
use Rattle.reports.specs.Exports.{Exports}
use Rattle.reports.specs.Trimming.{IsWhyUntrimmed, Shortens}
use Rattle.reports.specs.declared.explained.Explained.{Explained}
use Rattle.reports.specs.declared.explained.Explained.TheVariants as explanations
use Rattle.reports.specs.declared.trimmed.Shortened.{Shortened}
use Rattle.reports.specs.declared.trimmed.Untrimmed.{Untrimmed}
use Rattle.reports.specs.declared.trimmed.Untrimmed.TheVariants as untrimmed
use Rattle.session.specs.Pages.{HasTextOfFormula}
use Rattle.session.specs.parts.Texts.{AreAlikeEvidences, AreAlikePrograms, IsStray, IsTooLarge}
use Rattle.session.proofs.StrayEvidences.{fault_of_stray, no_evidence}
use Rattle.session.proofs.WholeTexts.{large_program_reason, large_reason, no_program, none_refuted, none_refutes, none_shown, none_shows, of_both, of_evidence, of_program, stray_reason}

-- ---- answers

none_finishes : (program : List ℕ) → IsTooLarge program → CanFinish program → ⊥
none_finishes program large finishes = no_program program finishes.p large finishes.text

large_no_formula : (read whole : List ℕ) (reason : Reason) → IsTooLarge read → IsTooLarge whole → HasNoFormulaText read reason → HasNoFormulaText whole reason
large_no_formula read whole reason large all (inl is) = inl (large_program_reason read whole reason large all is)
large_no_formula read whole reason large all (inr none) = absurd (no_program read none.0 large none.1)

large_answer : (read whole : List ℕ) (a : Answer) → IsTooLarge read → IsTooLarge whole → IsAnswer read a → IsAnswer whole a
large_answer read whole (answers.NoDeadlock evidence) large all is = absurd (none_refuted read evidence large is.1)
large_answer read whole (answers.Deadlock evidence) large all is = absurd (none_shown read evidence large is)
large_answer read whole (answers.Unknown why) large all (inl memory) = inl memory
large_answer read whole (answers.Unknown why) large all (inr within) = absurd (no_program read within.0 large within.1)
large_answer read whole (answers.Refused reason) large all is = (large_no_formula read whole reason large all is.0, is.1)

pub whole_answer : (read whole : List ℕ) (a : Answer) → AreAlikePrograms read whole → IsAnswer read a → IsAnswer whole a
whole_answer read whole a = of_program (λ (text : List ℕ). IsAnswer text a) read whole (large_answer read whole a)

large_finish : (budget : ℕ) (read whole : List ℕ) (a : Answer) → IsTooLarge read → IsTooLarge whole → FinishesIfUnknown budget read a → FinishesIfUnknown budget whole a
large_finish budget read whole (answers.NoDeadlock evidence) large all finishes = tt
large_finish budget read whole (answers.Deadlock evidence) large all finishes = tt
large_finish budget read whole (answers.Unknown why) large all (inl memory) = inl memory
large_finish budget read whole (answers.Unknown why) large all (inr finishes) = inr (λ some. absurd (none_finishes read large (finishes some)))
large_finish budget read whole (answers.Refused reason) large all finishes = tt

pub whole_finish : (budget : ℕ) (read whole : List ℕ) (a : Answer) → AreAlikePrograms read whole → FinishesIfUnknown budget read a → FinishesIfUnknown budget whole a
whole_finish budget read whole a = of_program (λ (text : List ℕ). FinishesIfUnknown budget text a) read whole (large_finish budget read whole a)

-- ---- formulas

large_formula : (dimacs : Bool) (read whole text : List ℕ) → IsTooLarge read → IsTooLarge whole → HasTextOfFormula dimacs read text → HasTextOfFormula dimacs whole text
large_formula false read whole text large all has = absurd (no_program read has.p large has.is_text)
large_formula true read whole text large all has = absurd (no_program read has.p large has.is_text)

pub whole_formula : (dimacs : Bool) (read whole text : List ℕ) → AreAlikePrograms read whole → HasTextOfFormula dimacs read text → HasTextOfFormula dimacs whole text
whole_formula dimacs read whole text = of_program (λ (program : List ℕ). HasTextOfFormula dimacs program text) read whole (large_formula dimacs read whole text)

pub whole_no_formula : (read whole : List ℕ) (reason : Reason) → AreAlikePrograms read whole → HasNoFormulaText read reason → HasNoFormulaText whole reason
whole_no_formula read whole reason = of_program (λ (text : List ℕ). HasNoFormulaText text reason) read whole (large_no_formula read whole reason)

-- ---- replays

large_replay : (lines : Bool) (read whole evidence : List ℕ) (r : Replayed) → IsTooLarge read → IsTooLarge whole → TellsReplay lines read evidence r
    → TellsReplay lines whole evidence r
large_replay lines read whole evidence (replays.Stuck text) large all is = absurd (none_shown read evidence large is.0)
large_replay lines read whole evidence (replays.Refused reason) large all is = (large_reason read whole evidence reason large all is.0, is.1)
large_replay lines read whole evidence replays.NotASchedule large all is = absurd (no_program read is.p large is.text)

stray_replay : (lines : Bool) (program read whole : List ℕ) (r : Replayed) → IsStray read → IsStray whole → TellsReplay lines program read r → TellsReplay lines program whole r
stray_replay lines program read whole (replays.Stuck text) stray all is = absurd (none_shows program read stray is.0)
stray_replay lines program read whole (replays.Refused reason) stray all is = (stray_reason program read whole reason stray all is.0, is.1)
stray_replay lines program read whole replays.NotASchedule stray all is = absurd (no_evidence read (Refutation is.claim) stray is.refutation)

pub whole_replay : (lines : Bool) (program whole_program evidence whole_evidence : List ℕ) (r : Replayed) → AreAlikePrograms program whole_program
    → AreAlikeEvidences evidence whole_evidence → TellsReplay lines program evidence r → TellsReplay lines whole_program whole_evidence r
whole_replay lines program whole_program evidence whole_evidence r =
    of_both (λ (p e : List ℕ). TellsReplay lines p e r) program whole_program evidence whole_evidence
    (large_replay lines program whole_program evidence r) (stray_replay lines whole_program evidence whole_evidence r)

-- ---- explanations

large_explanation : (form : Form) (read whole evidence : List ℕ) (x : Explained) → IsTooLarge read → IsTooLarge whole → Explains form read evidence x
    → Explains form whole evidence x
large_explanation form read whole evidence (explanations.NoDeadlock text) large all is = absurd (none_refuted read evidence large is.0)
large_explanation form read whole evidence (explanations.Deadlock text) large all is = absurd (none_shown read evidence large is.0)
large_explanation form read whole evidence (explanations.Refused reason) large all is = large_reason read whole evidence reason large all is

stray_explanation : (form : Form) (program read whole : List ℕ) (x : Explained) → IsStray read → IsStray whole → Explains form program read x
    → Explains form program whole x
stray_explanation form program read whole (explanations.NoDeadlock text) stray all is = absurd (none_refutes program read stray is.0)
stray_explanation form program read whole (explanations.Deadlock text) stray all is = absurd (none_shows program read stray is.0)
stray_explanation form program read whole (explanations.Refused reason) stray all is = stray_reason program read whole reason stray all is

pub whole_explanation : (form : Form) (program whole_program evidence whole_evidence : List ℕ) (x : Explained) → AreAlikePrograms program whole_program
    → AreAlikeEvidences evidence whole_evidence → Explains form program evidence x → Explains form whole_program whole_evidence x
whole_explanation form program whole_program evidence whole_evidence x =
    of_both (λ (p e : List ℕ). Explains form p e x) program whole_program evidence whole_evidence
    (large_explanation form program whole_program evidence x) (stray_explanation form whole_program evidence whole_evidence x)

-- ---- proofs

large_proof : (read whole evidence text : List ℕ) → IsTooLarge read → IsTooLarge whole → Exports read evidence text → Exports whole evidence text
large_proof read whole evidence text large all exports = absurd (no_program read exports.refuted.p large exports.refuted.text)

stray_proof : (program read whole text : List ℕ) → IsStray read → IsStray whole → Exports program read text → Exports program whole text
stray_proof program read whole text stray all exports = absurd (no_evidence read (Refutation exports.claim) stray exports.refuted.refutation)

pub whole_proof : (program whole_program evidence whole_evidence text : List ℕ) → AreAlikePrograms program whole_program
    → AreAlikeEvidences evidence whole_evidence → Exports program evidence text → Exports whole_program whole_evidence text
whole_proof program whole_program evidence whole_evidence text =
    of_both (λ (p e : List ℕ). Exports p e text) program whole_program evidence whole_evidence
    (large_proof program whole_program evidence text) (stray_proof whole_program evidence whole_evidence text)

stray_shorter : (read whole : List ℕ) (s : Shortened) → IsStray read → IsStray whole → Shortens read s → Shortens whole s
stray_shorter read whole s stray all shortens = absurd (no_evidence read (Refutation shortens.claim) stray shortens.refutation)

pub whole_shorter : (read whole : List ℕ) (s : Shortened) → AreAlikeEvidences read whole → Shortens read s → Shortens whole s
whole_shorter read whole s = of_evidence (λ (text : List ℕ). Shortens text s) read whole (stray_shorter read whole s)

stray_untrimmed : (read whole : List ℕ) (why : Untrimmed) → IsStray read → IsStray whole → IsWhyUntrimmed read why → IsWhyUntrimmed whole why
stray_untrimmed read whole untrimmed.Memory stray all is = is
stray_untrimmed read whole (untrimmed.Evidence fault) stray all is = (fault_of_stray read whole fault stray all is.0 is.1, is.1)
stray_untrimmed read whole untrimmed.Number stray all is = absurd (no_evidence read (Refutation is.0) stray is.1)
stray_untrimmed read whole untrimmed.NotRefutation stray all is = absurd (no_evidence read (Schedule is.0) stray is.1)

pub whole_untrimmed : (read whole : List ℕ) (why : Untrimmed) → AreAlikeEvidences read whole → IsWhyUntrimmed read why → IsWhyUntrimmed whole why
whole_untrimmed read whole why = of_evidence (λ (text : List ℕ). IsWhyUntrimmed text why) read whole (stray_untrimmed read whole why)
