-- What a text of a refutation refutes, the text without the lines that are not needed does.
use Rattle.std.proofs.Common.{◌≡◌, ◌∙◌, ◌⊎◌, List, ℕ, length, Result, Ok, Err, false, true, ap, refl, sym, subst}
use Rattle.std.proofs.lemmas.Bool.{true_from_ne_false}
use Rattle.trimming.specs.Needed.{are_named}
use Rattle.prooflog.specs.declared.evidence.Evidence.{Evidence}
use Rattle.prooflog.specs.declared.evidence.Evidence.TheVariants.{Schedule, Refutation}
use Rattle.prooflog.specs.declared.trims.TrimFault.{TrimFault}
use Rattle.prooflog.specs.declared.trims.TrimFault.TheVariants as trims
use Rattle.prooflog.specs.Refutations.{ClaimedRefutation}
use Rattle.prooflog.specs.Grammar.{IsEvidenceText}
use Rattle.prooflog.specs.Trims.{HasStrayNumber, IsNotRefutation, IsTrimmed, trimmed_of}
use Rattle.prooflog.proofs.Exact.{one_value}
use Rattle.prooflog.proofs.TrimLaws.{never_both}
use Rattle.checker.specs.Verdicts.{IsRefutedBy, RefutesProgram}
use Rattle.checker.proofs.OneVerdicts.{same_claim}
use Rattle.checker.proofs.Shorter.{refuted_trimmed}
use Rattle.reports.specs.Trimming.{IsWhyUntrimmed, Shortens, ShortenedRefute, lines_of, trim_why}
use Rattle.reports.specs.declared.trimmed.Shortened.{Shortened}
use Rattle.reports.specs.declared.trimmed.Untrimmed.{Untrimmed}

pub shortened_refutes : ShortenedRefute
shortened_refutes program evidence s shortens refutes =
    let same : refutes.claim ≡ shortens.claim =
    same_claim refutes.claim shortens.claim (one_value evidence (Refutation refutes.claim) (Refutation shortens.claim) refutes.refutation shortens.refutation) in
    record {
      p = refutes.p;
      claim = trimmed_of shortens.claim;
      text = refutes.text;
      refutation = shortens.text;
      holds = refuted_trimmed refutes.p shortens.claim (subst (λ (c : ClaimedRefutation). IsRefutedBy refutes.p c) same refutes.holds);
    }

-- a refutation that was trimmed has no number that names nothing
named_of : {X : Type 0} (claim : ClaimedRefutation) (result : Result X TrimFault) (done : X)
    → result ≡ Ok done
    → (HasStrayNumber (Refutation claim) → (result ≡ Err trims.Number) ⊎ (result ≡ Err trims.Memory))
    → are_named claim.clauses claim.lines claim.nodes ≡ true
named_of claim result done is told = true_from_ne_false _ (λ stray. never_both result done is (told stray))

pub shortens_from : {X : Type 0} (text : List ℕ) (evidence trimmed : Evidence) (result : Result X TrimFault) (done : X) (s : Shortened)
    → IsEvidenceText text evidence
    → result ≡ Ok done
    → (HasStrayNumber evidence → (result ≡ Err trims.Number) ⊎ (result ≡ Err trims.Memory))
    → IsTrimmed evidence trimmed
    → IsEvidenceText s.text.items trimmed
    → s.before ≡ lines_of evidence
    → s.after ≡ lines_of trimmed
    → Shortens text s
shortens_from text evidence trimmed result done s of_text is told is_trimmed of_shorter before after =
    let claim = is_trimmed.0 in
    let given = is_trimmed.1 in
    let made = is_trimmed.2 in
    record {
      claim = claim;
      refutation = subst (λ (e : Evidence). IsEvidenceText text e) given of_text;
      named = named_of claim result done is (subst (λ (e : Evidence). HasStrayNumber e → (result ≡ Err trims.Number) ⊎ (result ≡ Err trims.Memory)) given told);
      text = subst (λ (e : Evidence). IsEvidenceText s.text.items e) made of_shorter;
      before = before ∙ ap lines_of given;
      after = after ∙ ap lines_of made;
    }

-- why a text was not trimmed, by the fault that is told of what it says
pub why_untrimmed : (text : List ℕ) (evidence : Evidence) (fault : TrimFault) (why : Untrimmed)
    → IsEvidenceText text evidence
    → why ≡ trim_why fault
    → (fault ≡ trims.Number → HasStrayNumber evidence)
    → (fault ≡ trims.NotRefutation → IsNotRefutation evidence)
    → IsWhyUntrimmed text why
why_untrimmed text evidence trims.Memory why of_text is stray other = subst (IsWhyUntrimmed text) (sym is) tt
why_untrimmed text (Refutation claim) trims.Number why of_text is stray other = subst (IsWhyUntrimmed text) (sym is) (claim, of_text, stray refl)
why_untrimmed text (Schedule steps) trims.Number why of_text is stray other = absurd (stray refl)
why_untrimmed text (Refutation claim) trims.NotRefutation why of_text is stray other = absurd (other refl)
why_untrimmed text (Schedule steps) trims.NotRefutation why of_text is stray other = subst (IsWhyUntrimmed text) (sym is) (steps, of_text)
