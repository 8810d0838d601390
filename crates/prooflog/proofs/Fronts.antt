-- Languages of lines: what can go on, and where what follows some lines stops.
use Rattle.std.proofs.Common.{◌≡◌, ℕ, zero, suc, ◌+◌, ◌-◌, ◌≤◌, true, List, [], ◌∷◌, ◌++◌, length, take, map, refl, sym, ap, subst, ◌∙◌, append_assoc, arith, inl, inr, ◌⊎◌}
use Rattle.std.specs.List.{list_all}
use Rattle.std.proofs.lemmas.Bool.{and_parts}
use Rattle.std.proofs.lemmas.List.{length-append, length-take, take_all}
use Rattle.plaintext.specs.Plain.{text_lines}
use Rattle.plaintext.specs.Fronts.{to_end, IsClosedUnderFronts, IsFirstFaultyLine}
use Rattle.plaintext.proofs.FirstFaults.{heads, begins_front}
use Rattle.refutations.specs.Proofs.{ProofLine}
use Rattle.refutations.specs.declared.tree.Node.{Node}
use Rattle.refutations.specs.declared.tree.Node.TheVariants.{Split, Leaf}
use Rattle.prooflog.specs.declared.fault.EvidenceFault.{EvidenceFault}
use Rattle.prooflog.specs.declared.fault.EvidenceFault.TheVariants.{Memory, Syntax, Range, TooLarge}
use Rattle.prooflog.specs.Refutations.{IsSmallRefutation, is_depth, depths}
use Rattle.prooflog.specs.Grammar.{Written, as_schedule, as_refutation, written_lines}
use Rattle.prooflog.specs.Fault.{IsShaped, IsRanged, IsFew, HasEvidenceShape, IsInEvidenceRange, CanGoOnAsEvidence, IsWhy, HasEvidenceFault}
use Rattle.prooflog.specs.parts.Reading.{HasFaultAfter}

-- ---- values in lines

-- the value whose line comes after those of others
pub record Next {A : Type 0} (line : A → List ℕ) (all done : List A) (l : List ℕ) : Type 0 where
  pub value : A
  pub others : List A
  pub spelled : line value ≡ l
  pub cut : all ≡ done ++ value ∷ others

-- after the lines of some values comes another value's line, or the end
pub next_or_end : {A : Type 0} (line : A → List ℕ) → ((a b : A) → line a ≡ line b → a ≡ b) → ((a : A) → line a ≡ [] → ⊥)
    → (all done : List A) (l : List ℕ) (more : List (List ℕ)) → map line all ++ [] ∷ [] ≡ map line done ++ l ∷ more → Next line all done l ⊎ ((l ≡ []) × (all ≡ done))
next_or_end line injective nonempty [] [] l more e = inr (sym (heads [] l [] more e).0, refl)
next_or_end line injective nonempty [] (d ∷ done) l more e = absurd (nonempty d (sym (heads [] (line d) [] (map line done ++ l ∷ more) e).0))
next_or_end line injective nonempty (a ∷ all) [] l more e = inl (record { value = a; others = all; spelled = (heads (line a) l (map line all ++ [] ∷ []) more e).0; cut = refl })
next_or_end line injective nonempty (a ∷ all) (d ∷ done) l more e =
    let h = heads (line a) (line d) (map line all ++ [] ∷ []) (map line done ++ l ∷ more) e in
    let same : a ≡ d = injective a d h.0 in
    elim (next_or_end line injective nonempty all done l more h.1) [
      | inl x ↦ inl (record { value = x.value; others = x.others; spelled = x.spelled; cut = (λ i. same i ∷ x.cut i) })
      | inr x ↦ inr (x.0, (λ i. same i ∷ x.1 i))
    ]

-- ---- each limit is one more

pub ranged_shaped : (w : Written) → IsRanged w → IsShaped w
ranged_shaped (as_schedule ss) ranged = tt
ranged_shaped (as_refutation r) ranged = ranged.is_tree

pub in_range_shape : (front : List (List ℕ)) → IsInEvidenceRange front → HasEvidenceShape front
in_range_shape front (w, keeps, begins) = (w, ranged_shaped w keeps, begins)

pub go_on_in_range : (front : List (List ℕ)) → CanGoOnAsEvidence front → IsInEvidenceRange front
go_on_in_range front (w, keeps, begins) = (w, keeps.0, begins)

pub go_on_shape : (front : List (List ℕ)) → CanGoOnAsEvidence front → HasEvidenceShape front
go_on_shape front good = in_range_shape front (go_on_in_range front good)

-- ---- what is small stays so at each front

no_nodes : (roots : List ℕ) → depths roots [] ≡ []
no_nodes [] = refl
no_nodes (d ∷ roots) = refl

shallow_take : (roots : List ℕ) (nodes : List Node) (m n : ℕ) → m ≤ n → list_all is_depth (depths roots (take n nodes)) ≡ true → list_all is_depth (depths roots (take m nodes)) ≡ true
shallow_take [] nodes m n le all = refl
shallow_take (d ∷ roots) [] m n le all = ap (λ (ns : List Node). list_all is_depth (depths (d ∷ roots) ns)) (take_all m [] (omega arith))
shallow_take (d ∷ roots) (node ∷ nodes) zero n le all = refl
shallow_take (d ∷ roots) (node ∷ nodes) (suc m) zero le all = absurd (omega arith)
shallow_take (d ∷ roots) (Split v ∷ nodes) (suc m) (suc n) le all =
    let parts = and_parts (is_depth d) (list_all is_depth (depths ((d + 1) ∷ (d + 1) ∷ roots) (take n nodes))) all in
    rw (parts.0) (shallow_take ((d + 1) ∷ (d + 1) ∷ roots) nodes m n (omega arith) parts.1)
shallow_take (d ∷ roots) (Leaf k ∷ nodes) (suc m) (suc n) le all =
    let parts = and_parts (is_depth d) (list_all is_depth (depths roots (take n nodes))) all in
    rw (parts.0) (shallow_take roots nodes m n (omega arith) parts.1)

take_fewer : {A : Type 0} (xs : List A) (m n most : ℕ) → m ≤ n → length (take n xs) ≤ most → length (take m xs) ≤ most
take_fewer xs m n most le few = omega (arith, few, length-take m xs, length-take n xs)

pub small_take : (lines : List ProofLine) (nodes : List Node) (a b m n : ℕ) → a ≤ m → b ≤ n → IsSmallRefutation (take m lines) (take n nodes) → IsSmallRefutation (take a lines) (take b nodes)
small_take lines nodes a b m n le le' small = record {
  few_lines = take_fewer lines a m 1000000 le small.few_lines;
  few_nodes = take_fewer nodes b n 65536 le' small.few_nodes;
  shallow = shallow_take (0 ∷ []) nodes b n le' small.shallow;
}

pub small_front : (lines : List ProofLine) (nodes : List Node) (a b : ℕ) → IsSmallRefutation lines nodes → IsSmallRefutation (take a lines) (take b nodes)
small_front lines nodes a b small =
    let lines_whole : take (a + length lines) lines ≡ lines = take_all (a + length lines) lines (omega arith) in
    let nodes_whole : take (b + length nodes) nodes ≡ nodes = take_all (b + length nodes) nodes (omega arith) in
    small_take lines nodes a b (a + length lines) (b + length nodes) (omega arith) (omega arith) (rw (lines_whole, nodes_whole) small)

fewer : (w : Written) (m n : ℕ) → m ≤ n → IsFew n w → IsFew m w
fewer (as_schedule ss) m n le few = take_fewer ss (m - 2) (n - 2) 4096 (omega arith) few
fewer (as_refutation r) m n le small =
    small_take r.lines r.nodes (m - 2) (m - (3 + length r.lines)) (n - 2) (n - (3 + length r.lines)) (omega arith) (omega arith) small

pub closed_go_on : IsClosedUnderFronts CanGoOnAsEvidence
closed_go_on = λ front more (w, keeps, begins). (w, (keeps.0, fewer w (length front) (length (front ++ more)) (omega (arith, length-append front more)) keeps.1), begins_front front more (to_end (written_lines w)) begins)

-- ---- where what follows some lines stops

module _ (above : List (List ℕ)) (bytes : List ℕ) (before : List (List ℕ)) (line : List ℕ) (after : List (List ℕ)) (cut : text_lines bytes ≡ before ++ line ∷ after) (good : CanGoOnAsEvidence (above ++ before)) where
  first_faulty : (CanGoOnAsEvidence ((above ++ before) ++ line ∷ []) → ⊥) → IsFirstFaultyLine (λ front. CanGoOnAsEvidence (above ++ front)) bytes before line
  first_faulty bad = record { cut = (after, cut); good = good; bad = λ front. bad (subst CanGoOnAsEvidence (sym (append_assoc above before (line ∷ []))) front) }

  pub stops_syntax : (number : ℕ) → number ≡ length above + length before + 1 → (HasEvidenceShape ((above ++ before) ++ line ∷ []) → ⊥) → HasFaultAfter above bytes (Syntax number)
  stops_syntax number at none = (before, line, first_faulty (λ front. none (go_on_shape ((above ++ before) ++ line ∷ []) front)), (omega (arith, at, length-append above before), none))

  pub stops_range : (number : ℕ) → number ≡ length above + length before + 1 → HasEvidenceShape ((above ++ before) ++ line ∷ []) → (IsInEvidenceRange ((above ++ before) ++ line ∷ []) → ⊥) → HasFaultAfter above bytes (Range number)
  stops_range number at shape none = (before, line, first_faulty (λ front. none (go_on_in_range ((above ++ before) ++ line ∷ []) front)), (omega (arith, at, length-append above before), shape, none))

  pub stops_large : IsInEvidenceRange ((above ++ before) ++ line ∷ []) → (CanGoOnAsEvidence ((above ++ before) ++ line ∷ []) → ⊥) → HasFaultAfter above bytes TooLarge
  stops_large in_range none = (before, line, first_faulty none, in_range)

-- the fault of a text
abbrev OfLine : List (List ℕ) → List ℕ → EvidenceFault → Type 0
OfLine above bytes fault = (before : List (List ℕ)) × (line : List ℕ) × IsFirstFaultyLine (λ front. CanGoOnAsEvidence (above ++ front)) bytes before line × IsWhy fault (above ++ before) line

more_above : (above more : List (List ℕ)) (bytes rest : List ℕ) (fault : EvidenceFault) → text_lines bytes ≡ more ++ text_lines rest → OfLine (above ++ more) rest fault → OfLine above bytes fault
more_above above more bytes rest fault e (before, line, first, why) = (
  more ++ before,
  line,
  record {
    cut = (first.cut.0, e ∙ ap (λ (ls : List (List ℕ)). more ++ ls) first.cut.1 ∙ sym (append_assoc more before (line ∷ first.cut.0)));
    good = subst CanGoOnAsEvidence (append_assoc above more before) first.good;
    bad = λ front. first.bad (subst CanGoOnAsEvidence (ap (λ (ls : List (List ℕ)). above ++ ls) (append_assoc more before (line ∷ [])) ∙ sym (append_assoc above more (before ++ line ∷ []))) front);
  },
  subst (λ (ls : List (List ℕ)). IsWhy fault ls line) (append_assoc above more before) why,
)

-- a fault of what follows more lines is one of what follows fewer
pub after_more : (above more : List (List ℕ)) (bytes rest : List ℕ) (fault : EvidenceFault) → text_lines bytes ≡ more ++ text_lines rest → HasFaultAfter (above ++ more) rest fault → HasFaultAfter above bytes fault
after_more above more bytes rest Memory e has = tt
after_more above more bytes rest (Syntax number) e has = more_above above more bytes rest (Syntax number) e has
after_more above more bytes rest (Range number) e has = more_above above more bytes rest (Range number) e has
after_more above more bytes rest TooLarge e has = more_above above more bytes rest TooLarge e has

pub of_text : (bytes : List ℕ) (fault : EvidenceFault) → HasFaultAfter [] bytes fault → HasEvidenceFault bytes fault
of_text bytes Memory has = tt
of_text bytes (Syntax number) has = has
of_text bytes (Range number) has = has
of_text bytes TooLarge has = has
