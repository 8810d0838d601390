-- Texts, values and faults of evidence: a text has one value and no fault, and bytes have one
-- fault.
use Rattle.std.proofs.Common.{◌≡◌, ◌≢◌, ℕ, ◌+◌, ◌-◌, List, [], ◌∷◌, ◌++◌, length, get_or, map, refl, sym, ap, subst, ◌∙◌, arith}
use Rattle.std.specs.Prelude.{codes}
use Rattle.std.specs.List.{AllByRecursion}
use Rattle.std.proofs.lemmas.List.{append-nil, length-take}
use Rattle.plaintext.specs.Plain.{numeral, line_of, text_lines}
use Rattle.plaintext.specs.Fronts.{to_end, IsFirstFaultyLine}
use Rattle.plaintext.proofs.Ascii.{plain_by_test}
use Rattle.plaintext.proofs.Numerals.{IsPlain-numeral, numeral_injective}
use Rattle.plaintext.proofs.Texts.{IsLine, is_line, lines_joined, line_of_injective}
use Rattle.plaintext.proofs.FirstFaults.{heads, same_line, no_faulty_line}
use Rattle.semantics.specs.declared.state.Step.{Step}
use Rattle.semantics.specs.declared.state.Step.TheVariants as steps
use Rattle.prooflog.specs.declared.evidence.Evidence.{Evidence}
use Rattle.prooflog.specs.declared.evidence.Evidence.TheVariants.{Schedule, Refutation}
use Rattle.prooflog.specs.declared.fault.EvidenceFault.{EvidenceFault}
use Rattle.prooflog.specs.declared.fault.EvidenceFault.TheVariants.{Memory, Syntax, Range, TooLarge}
use Rattle.prooflog.specs.declared.refutation.Version.{Version}
use Rattle.prooflog.specs.declared.refutation.Version.TheVariants.{One, Two}
use Rattle.prooflog.specs.declared.step.WrittenStep.{WrittenStep}
use Rattle.prooflog.specs.Steps.{written, step_line, schedule_line}
use Rattle.prooflog.specs.Refutations.{ClaimedRefutation, Item, item_line, items, a_node}
use Rattle.prooflog.specs.Grammar.{Written, as_schedule, as_refutation, heading_line, refutation_line, written_lines, written_of, IsEvidenceText}
use Rattle.prooflog.specs.Fault.{IsRanged, IsFew, CanGoOnAsEvidence, IsWhy, HasEvidenceFault}
use Rattle.prooflog.proofs.StepLines.{plain_step, step_line_injective, step_line_nonempty}
use Rattle.prooflog.proofs.ProofWords.{plain_item, item_line_injective, item_line_nonempty}
use Rattle.prooflog.proofs.Items.{cut_at_tree, same_nodes}
use Rattle.prooflog.proofs.Fronts.{in_range_shape, small_front, closed_go_on}

-- ---- the lines of a text are its value's

pub plain_counts : (v c : ℕ) → AllByRecursion (λ (word : List ℕ). Rattle.plaintext.specs.Plain.IsPlain word) (codes "refutation" ∷ numeral v ∷ numeral c ∷ [])
plain_counts v c = (plain_by_test (codes "refutation") refl, (IsPlain-numeral v, (IsPlain-numeral c, tt)))

step_lines : (ws : List WrittenStep) → AllByRecursion IsLine (map step_line ws)
step_lines [] = tt
step_lines (w ∷ ws) = (is_line _ (plain_step w), step_lines ws)

item_lines : (is : List Item) → AllByRecursion IsLine (map item_line is)
item_lines [] = tt
item_lines (i ∷ is) = (is_line _ (plain_item i), item_lines is)

heading_is_line : (version : Version) → IsLine (heading_line version)
heading_is_line One = is_line (codes "evidence" ∷ codes "1" ∷ []) (plain_by_test (codes "evidence") refl, (plain_by_test (codes "1") refl, tt))
heading_is_line Two = is_line (codes "evidence" ∷ codes "2" ∷ []) (plain_by_test (codes "evidence") refl, (plain_by_test (codes "2") refl, tt))

all_lines : (w : Written) → AllByRecursion IsLine (written_lines w)
all_lines (as_schedule ss) = (
  heading_is_line One,
  (is_line (codes "schedule" ∷ []) (plain_by_test (codes "schedule") refl, tt), step_lines ss),
)
all_lines (as_refutation r) = (
  heading_is_line r.version,
  (is_line (codes "refutation" ∷ numeral r.variables ∷ numeral r.clauses ∷ []) (plain_counts r.variables r.clauses), item_lines (items r)),
)

pub lines_of_text : (bytes : List ℕ) (e : Evidence) → IsEvidenceText bytes e → text_lines bytes ≡ to_end (written_lines (written_of e))
lines_of_text bytes (Schedule ss) t =
    let w = as_schedule (map written ss) in ap text_lines t.text ∙ lines_joined (written_lines w) (all_lines w)
lines_of_text bytes (Refutation r) t = ap text_lines t.text ∙ lines_joined (written_lines (as_refutation r)) (all_lines (as_refutation r))

-- ---- lines have one value

one_list : {A : Type 0} (line : A → List ℕ) → ((a b : A) → line a ≡ line b → a ≡ b) → ((a : A) → line a ≡ [] → ⊥)
    → (xs ys : List A) → to_end (map line xs) ≡ to_end (map line ys) → xs ≡ ys
one_list line injective nonempty [] [] e = refl
one_list line injective nonempty [] (b ∷ ys) e = absurd (nonempty b (sym (heads [] (line b) [] (to_end (map line ys)) e).0))
one_list line injective nonempty (a ∷ xs) [] e = absurd (nonempty a (heads (line a) [] (to_end (map line xs)) [] e).0)
one_list line injective nonempty (a ∷ xs) (b ∷ ys) e =
    let h = heads (line a) (line b) (to_end (map line xs)) (to_end (map line ys)) e in
    let first : a ≡ b = injective a b h.0 in
    let others : xs ≡ ys = one_list line injective nonempty xs ys h.1 in
    (λ i. first i ∷ others i)

written_injective : (a b : Step) → written a ≡ written b → a ≡ b
written_injective (steps.Issue r b) (steps.Issue r' b') e = cc
written_injective (steps.Issue r b) (steps.Match s t) e = absurd cc
written_injective (steps.Issue r b) (steps.See s f) e = absurd cc
written_injective (steps.Match s t) (steps.Issue r b) e = absurd cc
written_injective (steps.Match s t) (steps.Match s' t') e =
    let p : s + 1 ≡ s' + 1 = cc in
    let q : t + 1 ≡ t' + 1 = cc in
    let p' : s ≡ s' = omega arith in
    let q' : t ≡ t' = omega arith in
    cc
written_injective (steps.Match s t) (steps.See s' f) e = absurd cc
written_injective (steps.See s f) (steps.Issue r b) e = absurd cc
written_injective (steps.See s f) (steps.Match s' t) e = absurd cc
written_injective (steps.See s f) (steps.See s' f') e =
    let p : s + 1 ≡ s' + 1 = cc in
    let q : f + 1 ≡ f' + 1 = cc in
    let p' : s ≡ s' = omega arith in
    let q' : f ≡ f' = omega arith in
    cc

same_steps : (xs ys : List Step) → map written xs ≡ map written ys → xs ≡ ys
same_steps [] [] e = refl
same_steps [] (b ∷ ys) e = absurd (cc)
same_steps (a ∷ xs) [] e = absurd (cc)
same_steps (a ∷ xs) (b ∷ ys) e =
    let h = heads (written a) (written b) (map written xs) (map written ys) e in
    let first : a ≡ b = written_injective a b h.0 in
    let others : xs ≡ ys = same_steps xs ys h.1 in
    (λ i. first i ∷ others i)

pub kinds_differ : (v c : ℕ) → schedule_line ≡ refutation_line v c → ⊥
kinds_differ v c e = omega (arith, ap (λ (l : List ℕ). get_or l 0 0) e)

pub same_counts : (v c v' c' : ℕ) → refutation_line v c ≡ refutation_line v' c' → (v ≡ v') × (c ≡ c')
same_counts v c v' c' e =
    let words = line_of_injective (codes "refutation" ∷ numeral v ∷ numeral c ∷ []) (codes "refutation" ∷ numeral v' ∷ numeral c' ∷ []) (omega arith) (omega arith) (plain_counts v c) (plain_counts v' c') e in
    let one = heads (codes "refutation") (codes "refutation") (numeral v ∷ numeral c ∷ []) (numeral v' ∷ numeral c' ∷ []) words in
    let two = heads (numeral v) (numeral v') (numeral c ∷ []) (numeral c' ∷ []) one.1 in
    let three = heads (numeral c) (numeral c') [] [] two.1 in
    (numeral_injective v v' two.0, numeral_injective c c' three.0)

headings_differ : heading_line One ≡ heading_line Two → ⊥
headings_differ e = omega (arith, ap (λ (l : List ℕ). get_or l 9 0) e)

pub same_version : (a b : Version) → heading_line a ≡ heading_line b → a ≡ b
same_version One One e = refl
same_version One Two e = absurd (headings_differ e)
same_version Two One e = absurd (headings_differ (sym e))
same_version Two Two e = refl

-- the versions are the same, and so is what stands below the first heading
pub below_heading : (a b : Version) (x y : List (List ℕ)) (k l : List ℕ) → heading_line a ∷ k ∷ x ≡ heading_line b ∷ l ∷ y → (k ≡ l) × (x ≡ y) × (a ≡ b)
below_heading a b x y k l e =
    let first = heads (heading_line a) (heading_line b) (k ∷ x) (l ∷ y) e in
    let second = heads k l x y first.1 in
    (second.0, second.1, same_version a b first.0)

one_refutation : (r s : ClaimedRefutation) → to_end (written_lines (as_refutation r)) ≡ to_end (written_lines (as_refutation s)) → r ≡ s
one_refutation r s e =
    let below = below_heading r.version s.version (to_end (map item_line (items r))) (to_end (map item_line (items s))) (refutation_line r.variables r.clauses) (refutation_line s.variables s.clauses) e in
    let counts = same_counts r.variables r.clauses s.variables s.clauses below.0 in
    let all : items r ≡ items s = one_list item_line item_line_injective item_line_nonempty (items r) (items s) below.1 in
    let parts = cut_at_tree r.lines s.lines (map a_node r.nodes) (map a_node s.nodes) all in
    let nodes = same_nodes r.nodes s.nodes parts.1 in
    (λ i. record { version = below.2 i; variables = counts.0 i; clauses = counts.1 i; lines = parts.0 i; nodes = nodes i })

one_schedule : (xs ys : List Step) → to_end (written_lines (as_schedule (map written xs))) ≡ to_end (written_lines (as_schedule (map written ys))) → xs ≡ ys
one_schedule xs ys e =
    let below = below_heading One One (to_end (map step_line (map written xs))) (to_end (map step_line (map written ys))) schedule_line schedule_line e in
    same_steps xs ys (one_list step_line step_line_injective step_line_nonempty (map written xs) (map written ys) below.1)

one_written : (a b : Evidence) → to_end (written_lines (written_of a)) ≡ to_end (written_lines (written_of b)) → a ≡ b
one_written (Schedule xs) (Schedule ys) e = ap (λ (ss : List Step). Schedule ss) (one_schedule xs ys e)
one_written (Schedule xs) (Refutation s) e = absurd (kinds_differ s.variables s.clauses (below_heading One s.version (to_end (map step_line (map written xs))) (to_end (map item_line (items s))) schedule_line (refutation_line s.variables s.clauses) e).0)
one_written (Refutation r) (Schedule ys) e = absurd (kinds_differ r.variables r.clauses (sym (below_heading r.version One (to_end (map item_line (items r))) (to_end (map step_line (map written ys))) (refutation_line r.variables r.clauses) schedule_line e).0))
one_written (Refutation r) (Refutation s) e = ap (λ (x : ClaimedRefutation). Refutation x) (one_refutation r s e)

pub one_value : (bytes : List ℕ) (a b : Evidence) → IsEvidenceText bytes a → IsEvidenceText bytes b → a ≡ b
one_value bytes a b s t = one_written a b (sym (lines_of_text bytes a s) ∙ lines_of_text bytes b t)

-- ---- a text has no fault

ranged : (bytes : List ℕ) (e : Evidence) → IsEvidenceText bytes e → IsRanged (written_of e)
ranged bytes (Schedule ss) t = t.limits.in_range
ranged bytes (Refutation r) t = t.limits.0

few : (bytes : List ℕ) (e : Evidence) (count : ℕ) → IsEvidenceText bytes e → IsFew count (written_of e)
few bytes (Schedule ss) count t = omega (arith, t.limits.few, length-take (count - 2) (map written ss))
few bytes (Refutation r) count t = small_front r.lines r.nodes (count - 2) (count - (3 + length r.lines)) t.limits.1

no_first_fault : (bytes : List ℕ) (evidence : Evidence) (before : List (List ℕ)) (line : List ℕ) → IsEvidenceText bytes evidence → IsFirstFaultyLine CanGoOnAsEvidence bytes before line → ⊥
no_first_fault bytes e before line t first =
    let whole : CanGoOnAsEvidence (text_lines bytes) = (written_of e, (ranged bytes e t, few bytes e (length (text_lines bytes)) t), ([], sym (lines_of_text bytes e t) ∙ sym (append-nil (text_lines bytes)))) in
    no_faulty_line CanGoOnAsEvidence bytes before line closed_go_on whole first

pub text_has_no_fault : (bytes : List ℕ) (evidence : Evidence) (fault : EvidenceFault) → IsEvidenceText bytes evidence → HasEvidenceFault bytes fault → fault ≡ Memory
text_has_no_fault bytes evidence Memory t has = refl
text_has_no_fault bytes evidence (Syntax number) t has = absurd (no_first_fault bytes evidence has.0 has.1 t has.2)
text_has_no_fault bytes evidence (Range number) t has = absurd (no_first_fault bytes evidence has.0 has.1 t has.2)
text_has_no_fault bytes evidence TooLarge t has = absurd (no_first_fault bytes evidence has.0 has.1 t has.2)

-- ---- bytes have one fault

-- why a line is faulty is one thing
one_why : (a b : EvidenceFault) (before : List (List ℕ)) (line : List ℕ) → IsWhy a before line → IsWhy b before line → a ≡ b
one_why Memory b before line v w = absurd v
one_why a Memory before line v w = absurd w
one_why (Syntax j) (Syntax k) before line v w = ap (λ (x : ℕ). Syntax x) (v.0 ∙ sym w.0)
one_why (Syntax j) (Range k) before line v w = absurd (v.1 w.1)
one_why (Syntax j) TooLarge before line v w = absurd (v.1 (in_range_shape (before ++ line ∷ []) w))
one_why (Range j) (Syntax k) before line v w = absurd (w.1 v.1)
one_why (Range j) (Range k) before line v w = ap (λ (x : ℕ). Range x) (v.0 ∙ sym w.0)
one_why (Range j) TooLarge before line v w = absurd (v.2 w)
one_why TooLarge (Syntax k) before line v w = absurd (w.1 (in_range_shape (before ++ line ∷ []) v))
one_why TooLarge (Range k) before line v w = absurd (w.2 v)
one_why TooLarge TooLarge before line v w = refl

-- a fault of a line
abbrev OfLine : List ℕ → EvidenceFault → Type 0
OfLine bytes fault = (before : List (List ℕ)) × (line : List ℕ) × IsFirstFaultyLine CanGoOnAsEvidence bytes before line × IsWhy fault before line

of_line : (bytes : List ℕ) (fault : EvidenceFault) → HasEvidenceFault bytes fault → fault ≢ Memory → OfLine bytes fault
of_line bytes Memory has other = absurd (other refl)
of_line bytes (Syntax k) has other = has
of_line bytes (Range k) has other = has
of_line bytes TooLarge has other = has

one_of_line : (bytes : List ℕ) (a b : EvidenceFault) → OfLine bytes a → OfLine bytes b → a ≡ b
one_of_line bytes a b (x, l, f, v) (y, m, g, w) =
    let same = same_line CanGoOnAsEvidence bytes x y l m closed_go_on f g in
    let w' : IsWhy b x m = subst (λ (z : List (List ℕ)). IsWhy b z m) (sym same.0) w in
    one_why a b x l v (subst (λ (n : List ℕ). IsWhy b x n) (sym same.1) w')

pub one_fault : (bytes : List ℕ) (a b : EvidenceFault) → HasEvidenceFault bytes a → HasEvidenceFault bytes b → a ≢ Memory → b ≢ Memory → a ≡ b
one_fault bytes a b f g other_a other_b = one_of_line bytes a b (of_line bytes a f other_a) (of_line bytes b g other_b)
