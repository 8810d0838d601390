-- Two texts have one verdict, but for want of memory.
use Rattle.std.proofs.Common.{◌≡◌, ◌≢◌, ℕ, List, [], Result, Ok, Err, refl, sym, ◌∙◌, ap, subst, inl, inr, ◌⊎◌}
use Rattle.calltext.specs.Readable.{IsText}
use Rattle.calltext.specs.Grammar.{ProgramText}
use Rattle.calltext.specs.Fault.{HasFault}
use Rattle.calltext.specs.declared.fault.ReadFault.{ReadFault}
use Rattle.calltext.specs.declared.fault.ReadFault.TheVariants as reading
use Rattle.calltext.proofs.Exact as texts
use Rattle.callorder.specs.Programs.{MpiProgram}
use Rattle.callorder.specs.FirstFaults.{IsFirstFault}
use Rattle.callorder.specs.Resolving.{IsTextOf}
use Rattle.callorder.specs.declared.fault.ResolveFault.{ResolveFault}
use Rattle.callorder.specs.declared.fault.ResolveFault.TheVariants as resolving
use Rattle.callorder.proofs.FirstFaults.{one_first_fault, one_program_of_bytes, program_text_has_no_fault}
use Rattle.semantics.specs.declared.state.Step.{Step}
use Rattle.semantics.specs.declared.schedule.End.{End}
use Rattle.semantics.specs.declared.schedule.End.TheVariants as ends
use Rattle.semantics.specs.RunEnds.{Replays}
use Rattle.semantics.proofs.Runs.{one_replay}
use Rattle.prooflog.specs.declared.evidence.Evidence.{Evidence}
use Rattle.prooflog.specs.declared.evidence.Evidence.TheVariants.{Schedule, Refutation}
use Rattle.prooflog.specs.declared.fault.EvidenceFault.{EvidenceFault}
use Rattle.prooflog.specs.declared.fault.EvidenceFault.TheVariants as proving
use Rattle.prooflog.specs.Refutations.{ClaimedRefutation}
use Rattle.prooflog.specs.Grammar.{IsEvidenceText}
use Rattle.prooflog.specs.Fault.{HasEvidenceFault}
use Rattle.prooflog.proofs.Exact as evidences
use Rattle.checker.specs.declared.reason.Reason.TheVariants as reasons
use Rattle.checker.specs.declared.reason.Verdict.{Verdict}
use Rattle.checker.specs.declared.reason.Verdict.TheVariants as verdicts
use Rattle.checker.specs.Verdicts.{OfRefutation, Judges, OneVerdict}
use Rattle.checker.proofs.OnRefutations.{OnRefutation, one_on_refutation}

-- ---- the five stages at which a verdict other than want of memory is reached

abbrev AtRead : List ℕ → Verdict → Type 0
AtRead program v = (fault : ReadFault) × HasFault program fault × (fault ≢ reading.Memory) × (v ≡ verdicts.Refused (reasons.Read fault))

abbrev AtResolve : List ℕ → Verdict → Type 0
AtResolve program v = (text : ProgramText) × (fault : ResolveFault) × IsText program text × IsFirstFault text fault × (fault ≢ resolving.Memory) × (v ≡ verdicts.Refused (reasons.Resolve fault))

abbrev AtEvidence : List ℕ → List ℕ → Verdict → Type 0
AtEvidence program evidence v = (p : MpiProgram) × (fault : EvidenceFault) × IsTextOf program p × HasEvidenceFault evidence fault × (fault ≢ proving.Memory) × (v ≡ verdicts.Refused (reasons.Evidence fault))

abbrev AtRefutation : List ℕ → List ℕ → Verdict → Type 0
AtRefutation program evidence v = OfRefutation program evidence (OnRefutation v)

verdict_of : Result End ℕ → Verdict
verdict_of (Ok ends.Stuck) = verdicts.Deadlock
verdict_of (Ok ends.Finished) = verdicts.Refused (reasons.NotStuck ends.Finished)
verdict_of (Ok ends.Live) = verdicts.Refused (reasons.NotStuck ends.Live)
verdict_of (Err at) = verdicts.Refused (reasons.Replay at)

record AtReplay (program evidence : List ℕ) (v : Verdict) : Type 0 where
  pub p : MpiProgram
  pub steps : List Step
  pub text : IsTextOf program p
  pub schedule : IsEvidenceText evidence (Schedule steps)
  pub answer : Result End ℕ
  pub replays : Replays p steps answer
  pub is : v ≡ verdict_of answer

Stage : List ℕ → List ℕ → Verdict → Type 0
Stage program evidence v = AtRead program v ⊎ (AtResolve program v ⊎ (AtEvidence program evidence v ⊎ (AtReplay program evidence v ⊎ AtRefutation program evidence v)))

stage : (program evidence : List ℕ) (v : Verdict) → Judges program evidence v → v ≢ verdicts.Refused reasons.Memory → Stage program evidence v
unfolding Stage verdict_of
stage program evidence verdicts.NoDeadlock j some = inr (inr (inr (inr j)))
stage program evidence verdicts.Deadlock j some = inr (inr (inr (inl (record { p = j.p; steps = j.steps; text = j.text; schedule = j.schedule; answer = Ok ends.Stuck; replays = j.stuck; is = refl }))))
stage program evidence (verdicts.Refused reasons.Memory) j some = absurd (some refl)
stage program evidence (verdicts.Refused (reasons.Read fault)) j some = inl (fault, j.0, j.1, refl)
stage program evidence (verdicts.Refused (reasons.Resolve fault)) j some = inr (inl (j.0, fault, j.1, j.2, j.3, refl))
stage program evidence (verdicts.Refused (reasons.Evidence fault)) j some = inr (inr (inl (j.0, fault, j.1, j.2, j.3, refl)))
stage program evidence (verdicts.Refused (reasons.Pairs fault)) j some = inr (inr (inr (inr j)))
stage program evidence (verdicts.Refused (reasons.Encode fault)) j some = inr (inr (inr (inr j)))
stage program evidence (verdicts.Refused reasons.Counts) j some = inr (inr (inr (inr j)))
stage program evidence (verdicts.Refused (reasons.Line found)) j some = inr (inr (inr (inr j)))
stage program evidence (verdicts.Refused (reasons.Tree fault)) j some = inr (inr (inr (inr j)))
stage program evidence (verdicts.Refused (reasons.Unneeded number)) j some = inr (inr (inr (inr j)))
stage program evidence (verdicts.Refused (reasons.Replay at)) j some = inr (inr (inr (inl (record { p = j.p; steps = j.steps; text = j.text; schedule = j.schedule; answer = Err at; replays = j.holds; is = refl }))))
stage program evidence (verdicts.Refused (reasons.NotStuck ends.Finished)) j some = inr (inr (inr (inl (record { p = j.p; steps = j.steps; text = j.text; schedule = j.schedule; answer = Ok ends.Finished; replays = j.holds; is = refl }))))
stage program evidence (verdicts.Refused (reasons.NotStuck ends.Live)) j some = inr (inr (inr (inl (record { p = j.p; steps = j.steps; text = j.text; schedule = j.schedule; answer = Ok ends.Live; replays = j.holds; is = refl }))))
stage program evidence (verdicts.Refused (reasons.NotStuck ends.Stuck)) j some = absurd j.holds

-- ---- one stage rules out the others, and has one verdict

read_text : (program : List ℕ) (v : Verdict) (text : ProgramText) → AtRead program v → IsText program text → ⊥
read_text program v text (fault, has, other, is) t = other (texts.text_has_no_fault program text fault t has)

resolve_program : (program : List ℕ) (v : Verdict) (p : MpiProgram) → AtResolve program v → IsTextOf program p → ⊥
resolve_program program v p (text, fault, is_text, first, other, is) of = other (program_text_has_no_fault program p text fault of is_text first)

evidence_text : (program evidence : List ℕ) (v : Verdict) (e : Evidence) → AtEvidence program evidence v → IsEvidenceText evidence e → ⊥
evidence_text program evidence v e (p, fault, of, has, other, is) t = other (evidences.text_has_no_fault evidence e fault t has)

pub kinds_differ : (evidence : List ℕ) (steps : List Step) (claim : ClaimedRefutation) → IsEvidenceText evidence (Schedule steps) → IsEvidenceText evidence (Refutation claim) → ⊥
kinds_differ evidence steps claim s t = let same = evidences.one_value evidence (Schedule steps) (Refutation claim) s t in cc

both_read : (program : List ℕ) (v w : Verdict) → AtRead program v → AtRead program w → v ≡ w
both_read program v w (f, has, other, is) (g, has', other', is') =
    is ∙ ap (λ (x : ReadFault). verdicts.Refused (reasons.Read x)) (texts.one_fault program f g has has' other other') ∙ sym is'

both_resolve : (program : List ℕ) (v w : Verdict) → AtResolve program v → AtResolve program w → v ≡ w
both_resolve program v w (t, f, text, first, other, is) (t', f', text', first', other', is') =
    let same : t' ≡ t = texts.one_value program t' t text' text in
    let first_too : IsFirstFault t f' = subst (λ (x : ProgramText). IsFirstFault x f') same first' in
    is ∙ ap (λ (x : ResolveFault). verdicts.Refused (reasons.Resolve x)) (one_first_fault t f f' first first_too other other') ∙ sym is'

both_evidence : (program evidence : List ℕ) (v w : Verdict) → AtEvidence program evidence v → AtEvidence program evidence w → v ≡ w
both_evidence program evidence v w (p, f, of, has, other, is) (p', f', of', has', other', is') =
    is ∙ ap (λ (x : EvidenceFault). verdicts.Refused (reasons.Evidence x)) (evidences.one_fault evidence f f' has has' other other') ∙ sym is'

steps_of : Evidence → List Step
steps_of (Schedule steps) = steps
steps_of (Refutation claim) = []

same_steps : (steps others : List Step) → Schedule steps ≡ Schedule others → steps ≡ others
unfolding steps_of
same_steps steps others e = ap steps_of e

both_replay : (program evidence : List ℕ) (v w : Verdict) → AtReplay program evidence v → AtReplay program evidence w → v ≡ w
both_replay program evidence v w a b =
    let one : b.p ≡ a.p = one_program_of_bytes program b.p a.p b.text a.text in
    let two : b.steps ≡ a.steps = same_steps b.steps a.steps (evidences.one_value evidence (Schedule b.steps) (Schedule a.steps) b.schedule a.schedule) in
    let other : Replays a.p a.steps b.answer = subst (λ (p : MpiProgram). Replays p a.steps b.answer) one (subst (λ (s : List Step). Replays b.p s b.answer) two b.replays) in
    a.is ∙ ap verdict_of (one_replay a.p a.steps a.answer b.answer a.replays other) ∙ sym b.is

claim_in : ClaimedRefutation → Evidence → ClaimedRefutation
claim_in other (Refutation claim) = claim
claim_in other (Schedule steps) = other

pub same_claim : (claim other : ClaimedRefutation) → Refutation claim ≡ Refutation other → claim ≡ other
unfolding claim_in
same_claim claim other e = ap (claim_in claim) e

both_refutation : (program evidence : List ℕ) (v w : Verdict) → AtRefutation program evidence v → AtRefutation program evidence w → v ≡ w
both_refutation program evidence v w a b =
    let one : b.p ≡ a.p = one_program_of_bytes program b.p a.p b.text a.text in
    let two : b.claim ≡ a.claim = same_claim b.claim a.claim (evidences.one_value evidence (Refutation b.claim) (Refutation a.claim) b.refutation a.refutation) in
    let other : OnRefutation w a.p a.claim = subst (λ (p : MpiProgram). OnRefutation w p a.claim) one (subst (λ (c : ClaimedRefutation). OnRefutation w b.p c) two b.holds) in
    one_on_refutation a.p a.claim v w a.holds other

one_stage : (program evidence : List ℕ) (v w : Verdict) → Stage program evidence v → Stage program evidence w → v ≡ w
unfolding Stage
one_stage program evidence v w (inl a) (inl b) = both_read program v w a b
one_stage program evidence v w (inl a) (inr (inl b)) = absurd (read_text program v b.0 a b.2)
one_stage program evidence v w (inl a) (inr (inr (inl b))) = absurd (read_text program v b.2.text a b.2.is_text)
one_stage program evidence v w (inl a) (inr (inr (inr (inl b)))) = absurd (read_text program v b.text.text a b.text.is_text)
one_stage program evidence v w (inl a) (inr (inr (inr (inr b)))) = absurd (read_text program v b.text.text a b.text.is_text)
one_stage program evidence v w (inr (inl a)) (inl b) = absurd (read_text program w a.0 b a.2)
one_stage program evidence v w (inr (inl a)) (inr (inl b)) = both_resolve program v w a b
one_stage program evidence v w (inr (inl a)) (inr (inr (inl b))) = absurd (resolve_program program v b.0 a b.2)
one_stage program evidence v w (inr (inl a)) (inr (inr (inr (inl b)))) = absurd (resolve_program program v b.p a b.text)
one_stage program evidence v w (inr (inl a)) (inr (inr (inr (inr b)))) = absurd (resolve_program program v b.p a b.text)
one_stage program evidence v w (inr (inr (inl a))) (inl b) = absurd (read_text program w a.2.text b a.2.is_text)
one_stage program evidence v w (inr (inr (inl a))) (inr (inl b)) = absurd (resolve_program program w a.0 b a.2)
one_stage program evidence v w (inr (inr (inl a))) (inr (inr (inl b))) = both_evidence program evidence v w a b
one_stage program evidence v w (inr (inr (inl a))) (inr (inr (inr (inl b)))) = absurd (evidence_text program evidence v (Schedule b.steps) a b.schedule)
one_stage program evidence v w (inr (inr (inl a))) (inr (inr (inr (inr b)))) = absurd (evidence_text program evidence v (Refutation b.claim) a b.refutation)
one_stage program evidence v w (inr (inr (inr (inl a)))) (inl b) = absurd (read_text program w a.text.text b a.text.is_text)
one_stage program evidence v w (inr (inr (inr (inl a)))) (inr (inl b)) = absurd (resolve_program program w a.p b a.text)
one_stage program evidence v w (inr (inr (inr (inl a)))) (inr (inr (inl b))) = absurd (evidence_text program evidence w (Schedule a.steps) b a.schedule)
one_stage program evidence v w (inr (inr (inr (inl a)))) (inr (inr (inr (inl b)))) = both_replay program evidence v w a b
one_stage program evidence v w (inr (inr (inr (inl a)))) (inr (inr (inr (inr b)))) = absurd (kinds_differ evidence a.steps b.claim a.schedule b.refutation)
one_stage program evidence v w (inr (inr (inr (inr a)))) (inl b) = absurd (read_text program w a.text.text b a.text.is_text)
one_stage program evidence v w (inr (inr (inr (inr a)))) (inr (inl b)) = absurd (resolve_program program w a.p b a.text)
one_stage program evidence v w (inr (inr (inr (inr a)))) (inr (inr (inl b))) = absurd (evidence_text program evidence w (Refutation a.claim) b a.refutation)
one_stage program evidence v w (inr (inr (inr (inr a)))) (inr (inr (inr (inl b)))) = absurd (kinds_differ evidence b.steps a.claim b.schedule a.refutation)
one_stage program evidence v w (inr (inr (inr (inr a)))) (inr (inr (inr (inr b)))) = both_refutation program evidence v w a b

pub one_verdict : OneVerdict
one_verdict program evidence v w a b some some' = one_stage program evidence v w (stage program evidence v a some) (stage program evidence w b some')

-- ---- want of memory

memory_or_not : (v : Verdict) → (v ≡ verdicts.Refused reasons.Memory) ⊎ (v ≢ verdicts.Refused reasons.Memory)
memory_or_not (verdicts.Refused reasons.Memory) = inl refl
memory_or_not verdicts.NoDeadlock = inr (λ e. cc)
memory_or_not verdicts.Deadlock = inr (λ e. cc)
memory_or_not (verdicts.Refused (reasons.Read fault)) = inr (λ e. cc)
memory_or_not (verdicts.Refused (reasons.Resolve fault)) = inr (λ e. cc)
memory_or_not (verdicts.Refused (reasons.Evidence fault)) = inr (λ e. cc)
memory_or_not (verdicts.Refused (reasons.Pairs fault)) = inr (λ e. cc)
memory_or_not (verdicts.Refused (reasons.Encode fault)) = inr (λ e. cc)
memory_or_not (verdicts.Refused reasons.Counts) = inr (λ e. cc)
memory_or_not (verdicts.Refused (reasons.Line found)) = inr (λ e. cc)
memory_or_not (verdicts.Refused (reasons.Tree fault)) = inr (λ e. cc)
memory_or_not (verdicts.Refused (reasons.Unneeded number)) = inr (λ e. cc)
memory_or_not (verdicts.Refused (reasons.Replay at)) = inr (λ e. cc)
memory_or_not (verdicts.Refused (reasons.NotStuck end)) = inr (λ e. cc)

-- where a verdict is right there is no other one, but for want of memory
pub right_or_memory : (program evidence : List ℕ) (v right : Verdict) → Judges program evidence v → Judges program evidence right → right ≢ verdicts.Refused reasons.Memory → (v ≡ right) ⊎ (v ≡ verdicts.Refused reasons.Memory)
right_or_memory program evidence v right j of_right some = elim (memory_or_not v) [
  | inl memory ↦ inr memory
  | inr other ↦ inl (one_verdict program evidence v right j of_right other some)
]
