-- What doesn't begin as an evidence is no evidence, by its first line.
use Rattle.std.proofs.Common.{◌≡◌, ◌≢◌, ◌∙◌, refl, subst, ℕ, List, [], ◌∷◌, ◌++◌, ap, sym, append_assoc}
use Rattle.std.specs.Prelude.{codes}
use Rattle.std.specs.List.{flat_map}
use Rattle.std.proofs.lemmas.List.Concat.{flat_map-cons}
use Rattle.plaintext.specs.Plain.{text_lines}
use Rattle.plaintext.proofs.Texts.{joined-lines}
use Rattle.prooflog.specs.declared.evidence.Evidence.{Evidence}
use Rattle.prooflog.specs.declared.fault.EvidenceFault.{EvidenceFault}
use Rattle.prooflog.specs.declared.fault.EvidenceFault.TheVariants as proving
use Rattle.prooflog.specs.declared.refutation.Version.{Version}
use Rattle.prooflog.specs.declared.refutation.Version.TheVariants.{One, Two}
use Rattle.prooflog.specs.Grammar.{heading_line, IsEvidenceText}
use Rattle.prooflog.specs.Fault.{HasEvidenceFault}
use Rattle.prooflog.proofs.Headings.{first_faulty}
use Rattle.prooflog.proofs.Exact as exact
use Rattle.session.specs.parts.Texts.{IsStray}

-- each heading begins alike
number_line : Version → List ℕ
number_line One = codes "1\n"
number_line Two = codes "2\n"

begun : (version : Version) → heading_line version ≡ codes "evidence " ++ number_line version
unfolding number_line
begun One = refl
begun Two = refl

first_line : (bytes line : List ℕ) (after : List (List ℕ)) (version : Version) → text_lines bytes ≡ line ∷ after → heading_line version ≡ line
    → bytes ≡ codes "evidence " ++ (number_line version ++ flat_map (λ (l : List ℕ). l) after)
first_line bytes line after version cut is =
    sym (joined-lines bytes) ∙ ap (flat_map (λ (l : List ℕ). l)) cut ∙ flat_map-cons (λ (l : List ℕ). l) line after
    ∙ ap (λ (l : List ℕ). l ++ flat_map (λ (l : List ℕ). l) after) (sym is ∙ begun version)
    ∙ append_assoc (codes "evidence ") (number_line version) (flat_map (λ (l : List ℕ). l) after)

no_lines : (bytes : List ℕ) → text_lines bytes ≡ [] → ⊥
no_lines bytes none =
    let empty : bytes ≡ [] = sym (joined-lines bytes) ∙ ap (flat_map (λ (l : List ℕ). l)) none in
    let first : text_lines [] ≡ [] = ap text_lines (sym empty) ∙ none in
    cc

by_lines : (bytes : List ℕ) (lines : List (List ℕ)) → text_lines bytes ≡ lines → IsStray bytes → HasEvidenceFault bytes (proving.Syntax 1)
by_lines bytes [] cut stray = absurd (no_lines bytes cut)
by_lines bytes (line ∷ after) cut stray = first_faulty bytes line after cut (λ version is. stray _ (first_line bytes line after version cut is))

pub stray_fault : (bytes : List ℕ) → IsStray bytes → HasEvidenceFault bytes (proving.Syntax 1)
stray_fault bytes stray = by_lines bytes (text_lines bytes) refl stray

pub not_memory : (fault : EvidenceFault) → fault ≡ proving.Syntax 1 → fault ≢ proving.Memory
not_memory fault is memory = cc

-- so it is no evidence's text
pub no_evidence : (bytes : List ℕ) (e : Evidence) → IsStray bytes → IsEvidenceText bytes e → ⊥
no_evidence bytes e stray text =
    not_memory (proving.Syntax 1) refl (exact.text_has_no_fault bytes e (proving.Syntax 1) text (stray_fault bytes stray))

-- and two such texts have the same faults
pub fault_of_stray : (read whole : List ℕ) (fault : EvidenceFault) → IsStray read → IsStray whole → HasEvidenceFault read fault → fault ≢ proving.Memory
    → HasEvidenceFault whole fault
fault_of_stray read whole fault stray_read stray_whole has not =
    subst (HasEvidenceFault whole)
    (exact.one_fault read (proving.Syntax 1) fault (stray_fault read stray_read) has (not_memory (proving.Syntax 1) refl) not) (stray_fault whole stray_whole)
