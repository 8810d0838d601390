-- What is said of texts as far as they were read is right of the whole texts.
use Rattle.std.proofs.Common.{◌≤◌, ℕ, List, length, inl, inr, subst, arith}
use Rattle.calltext.specs.Readable.{IsText}
use Rattle.calltext.specs.Grammar.{ProgramText}
use Rattle.calltext.specs.Fault.{HasFault}
use Rattle.calltext.specs.declared.fault.ReadFault.{ReadFault}
use Rattle.calltext.specs.declared.fault.ReadFault.TheVariants as reading
use Rattle.callorder.specs.Programs.{MpiProgram}
use Rattle.callorder.specs.Resolving.{IsTextOf}
use Rattle.prooflog.specs.declared.evidence.Evidence.TheVariants.{Schedule, Refutation}
use Rattle.checker.specs.Headline.{Shows}
use Rattle.checker.specs.Verdicts.{IsProgramReason, IsReason, Judges, RefutesProgram}
use Rattle.checker.specs.declared.reason.Reason.{Reason}
use Rattle.checker.specs.declared.reason.Reason.TheVariants as reasons
use Rattle.checker.specs.declared.reason.Verdict.{Verdict}
use Rattle.checker.specs.declared.reason.Verdict.TheVariants as verdicts
use Rattle.session.specs.parts.Texts.{AreAlikeEvidences, AreAlikePrograms, IsStray, IsTooLarge}
use Rattle.session.proofs.StrayEvidences.{fault_of_stray, no_evidence}

-- what holds of one text holds of a text that is like it
pub of_program : (Holds : List ℕ → Type 0) (read whole : List ℕ) → (IsTooLarge read → IsTooLarge whole → Holds read → Holds whole) → AreAlikePrograms read whole
    → Holds read → Holds whole
of_program Holds read whole step (inl same) holds = subst Holds same holds
of_program Holds read whole step (inr large) holds = step large.0 large.1 holds

pub of_evidence : (Holds : List ℕ → Type 0) (read whole : List ℕ) → (IsStray read → IsStray whole → Holds read → Holds whole) → AreAlikeEvidences read whole
    → Holds read → Holds whole
of_evidence Holds read whole step (inl same) holds = subst Holds same holds
of_evidence Holds read whole step (inr stray) holds = step stray.0 stray.1 holds

pub of_both : (Holds : List ℕ → List ℕ → Type 0) (program whole_program evidence whole_evidence : List ℕ)
    → (IsTooLarge program → IsTooLarge whole_program → Holds program evidence → Holds whole_program evidence)
    → (IsStray evidence → IsStray whole_evidence → Holds whole_program evidence → Holds whole_program whole_evidence)
    → AreAlikePrograms program whole_program → AreAlikeEvidences evidence whole_evidence → Holds program evidence → Holds whole_program whole_evidence
of_both Holds program whole_program evidence whole_evidence large stray programs evidences holds =
    of_evidence (Holds whole_program) evidence whole_evidence stray evidences
    (of_program (λ (text : List ℕ). Holds text evidence) program whole_program large programs holds)

-- ---- texts that are too large

both_sizes : (bytes : List ℕ) → IsTooLarge bytes → length bytes ≤ 1048576 → ⊥
both_sizes bytes large small = omega (arith, large, small)

no_source : (bytes : List ℕ) (source : ProgramText) → IsTooLarge bytes → IsText bytes source → ⊥
no_source bytes source large text = both_sizes bytes large text.small

pub no_program : (bytes : List ℕ) (p : MpiProgram) → IsTooLarge bytes → IsTextOf bytes p → ⊥
no_program bytes p large text = no_source bytes text.text large text.is_text

large_fault : (read whole : List ℕ) (fault : ReadFault) → IsTooLarge read → IsTooLarge whole → HasFault read fault → HasFault whole fault
large_fault read whole reading.Memory large all has = has
large_fault read whole reading.TooLarge large all has = all
large_fault read whole (reading.NotAscii line) large all has = absurd (both_sizes read large has.0)
large_fault read whole (reading.OutOfProfile line word) large all has = absurd (both_sizes read large has.0)
large_fault read whole (reading.Syntax line) large all has = absurd (both_sizes read large has.0)
large_fault read whole (reading.Range line) large all has = absurd (both_sizes read large has.0)

pub large_reason : (read whole evidence : List ℕ) (reason : Reason) → IsTooLarge read → IsTooLarge whole → IsReason read evidence reason
    → IsReason whole evidence reason
large_reason read whole evidence reasons.Memory large all is = is
large_reason read whole evidence (reasons.Read fault) large all is = (large_fault read whole fault large all is.0, is.1)
large_reason read whole evidence (reasons.Resolve fault) large all is = absurd (no_source read is.0 large is.1)
large_reason read whole evidence (reasons.Evidence fault) large all is = absurd (no_program read is.0 large is.1)
large_reason read whole evidence (reasons.Pairs fault) large all is = absurd (no_program read is.p large is.text)
large_reason read whole evidence (reasons.Encode fault) large all is = absurd (no_program read is.p large is.text)
large_reason read whole evidence reasons.Counts large all is = absurd (no_program read is.p large is.text)
large_reason read whole evidence (reasons.Line found) large all is = absurd (no_program read is.p large is.text)
large_reason read whole evidence (reasons.Tree fault) large all is = absurd (no_program read is.p large is.text)
large_reason read whole evidence (reasons.Unneeded number) large all is = absurd (no_program read is.p large is.text)
large_reason read whole evidence (reasons.Replay at) large all is = absurd (no_program read is.p large is.text)
large_reason read whole evidence (reasons.NotStuck end) large all is = absurd (no_program read is.p large is.text)

pub large_program_reason : (read whole : List ℕ) (reason : Reason) → IsTooLarge read → IsTooLarge whole → IsProgramReason read reason → IsProgramReason whole reason
large_program_reason read whole reason large all is = (is.0, λ evidence. large_reason read whole evidence reason large all (is.1 evidence))

pub none_refuted : (program evidence : List ℕ) → IsTooLarge program → RefutesProgram program evidence → ⊥
none_refuted program evidence large refutes = no_program program refutes.p large refutes.text

pub none_shown : (program evidence : List ℕ) → IsTooLarge program → Shows program evidence → ⊥
none_shown program evidence large shows = no_program program shows.p large shows.text

-- ---- evidences that don't begin so

pub stray_reason : (program read whole : List ℕ) (reason : Reason) → IsStray read → IsStray whole → IsReason program read reason → IsReason program whole reason
stray_reason program read whole reasons.Memory stray all is = is
stray_reason program read whole (reasons.Read fault) stray all is = is
stray_reason program read whole (reasons.Resolve fault) stray all is = is
stray_reason program read whole (reasons.Evidence fault) stray all is = (is.0, is.1, fault_of_stray read whole fault stray all is.2 is.3, is.3)
stray_reason program read whole (reasons.Pairs fault) stray all is = absurd (no_evidence read (Refutation is.claim) stray is.refutation)
stray_reason program read whole (reasons.Encode fault) stray all is = absurd (no_evidence read (Refutation is.claim) stray is.refutation)
stray_reason program read whole reasons.Counts stray all is = absurd (no_evidence read (Refutation is.claim) stray is.refutation)
stray_reason program read whole (reasons.Line found) stray all is = absurd (no_evidence read (Refutation is.claim) stray is.refutation)
stray_reason program read whole (reasons.Tree fault) stray all is = absurd (no_evidence read (Refutation is.claim) stray is.refutation)
stray_reason program read whole (reasons.Unneeded number) stray all is = absurd (no_evidence read (Refutation is.claim) stray is.refutation)
stray_reason program read whole (reasons.Replay at) stray all is = absurd (no_evidence read (Schedule is.steps) stray is.schedule)
stray_reason program read whole (reasons.NotStuck end) stray all is = absurd (no_evidence read (Schedule is.steps) stray is.schedule)

pub none_refutes : (program evidence : List ℕ) → IsStray evidence → RefutesProgram program evidence → ⊥
none_refutes program evidence stray refutes = no_evidence evidence (Refutation refutes.claim) stray refutes.refutation

pub none_shows : (program evidence : List ℕ) → IsStray evidence → Shows program evidence → ⊥
none_shows program evidence stray shows = no_evidence evidence (Schedule shows.steps) stray shows.schedule

-- ---- verdicts

large_verdict : (read whole evidence : List ℕ) (v : Verdict) → IsTooLarge read → IsTooLarge whole → Judges read evidence v → Judges whole evidence v
large_verdict read whole evidence verdicts.NoDeadlock large all judges = absurd (none_refuted read evidence large judges)
large_verdict read whole evidence verdicts.Deadlock large all judges = absurd (none_shown read evidence large judges)
large_verdict read whole evidence (verdicts.Refused reason) large all judges = large_reason read whole evidence reason large all judges

stray_verdict : (program read whole : List ℕ) (v : Verdict) → IsStray read → IsStray whole → Judges program read v → Judges program whole v
stray_verdict program read whole verdicts.NoDeadlock stray all judges = absurd (none_refutes program read stray judges)
stray_verdict program read whole verdicts.Deadlock stray all judges = absurd (none_shows program read stray judges)
stray_verdict program read whole (verdicts.Refused reason) stray all judges = stray_reason program read whole reason stray all judges

pub whole_verdict : (program whole_program evidence whole_evidence : List ℕ) (v : Verdict) → AreAlikePrograms program whole_program
    → AreAlikeEvidences evidence whole_evidence → Judges program evidence v → Judges whole_program whole_evidence v
whole_verdict program whole_program evidence whole_evidence v =
    of_both (λ (p e : List ℕ). Judges p e v) program whole_program evidence whole_evidence
    (large_verdict program whole_program evidence v) (stray_verdict whole_program evidence whole_evidence v)
