-- A refutation of a program has one verdict, but for want of memory.
use Rattle.std.proofs.Common.{◌≡◌, ◌⊎◌, ℕ, ◌≤◌, ◌<◌, List, Some, None, length, refl, sym, ◌∙◌, ap, arith, inl, inr, [], ◌∷◌}
use Rattle.std.proofs.lemmas.Option.{slice_get_within}
use Rattle.callorder.specs.Programs.{MpiProgram}
use Rattle.candidates.specs.Pairs.{pairs_of}
use Rattle.candidates.specs.declared.fault.PairFault.TheVariants as pairing
use Rattle.clauses.specs.Clauses.{Conjunction}
use Rattle.encode.specs.declared.fault.EncodeFault.TheVariants as encoding
use Rattle.formula.specs.Families.{events}
use Rattle.formula.specs.Numbering.{formula_of}
use Rattle.refutations.specs.declared.refutation.FaultyLine.{FaultyLine}
use Rattle.refutations.specs.declared.tree.Node.{Node}
use Rattle.refutations.specs.declared.tree_check.TreeFault.{TreeFault}
use Rattle.refutations.specs.Derivations.{clauses_before}
use Rattle.refutations.specs.Proofs.{ProofLine}
use Rattle.refutations.specs.Refutations.{AreDerived, IsFirstFaulty}
use Rattle.refutations.specs.Trees.{AcceptsTree, HasTreeFault}
use Rattle.refutations.specs.parts.TreeFaults.{walk}
use Rattle.refutations.proofs.ExactTrees.{fault_of_placed-only}
use Rattle.refutations.proofs.Preorders.{walk_of_tree, walk_of_fault}
use Rattle.pieces.proofs.Answers.{one_first, faulty_not_derived}
use Rattle.prooflog.specs.Refutations.{ClaimedRefutation}
use Rattle.checker.specs.declared.reason.Reason.{Reason}
use Rattle.checker.specs.declared.reason.Reason.TheVariants as reasons
use Rattle.checker.specs.declared.reason.Verdict.{Verdict}
use Rattle.checker.specs.declared.reason.Verdict.TheVariants as verdicts
use Rattle.trimming.specs.Needed.{Needed}
use Rattle.trimming.proofs.MarkLaws.{one_unneeded, needed_have_none}
use Rattle.prooflog.specs.declared.refutation.Version.TheVariants.{Two}
use Rattle.checker.specs.Verdicts.{HasFormula, HasCounts, IsRefutedBy, IsUnneeded, IsUnrefuted}

-- what each verdict says of a program and a refutation
abbrev pub OnRefutation : Verdict → MpiProgram → ClaimedRefutation → Type 0
OnRefutation verdicts.NoDeadlock = IsRefutedBy
OnRefutation verdicts.Deadlock = λ p claim. ⊥
OnRefutation (verdicts.Refused reason) = IsUnrefuted reason

-- ---- one fault of a tree

one_tree_fault : (f : Conjunction) (lines : List ProofLine) (nodes : List Node) (a b : TreeFault) → HasTreeFault f lines nodes a → HasTreeFault f lines nodes b → a ≡ b
one_tree_fault f lines nodes a b has other =
    let one = fault_of_placed-only f.variables (clauses_before f lines) 0 (walk ([] ∷ []) nodes) (Some a) (walk_of_fault f lines nodes a has) in
    let two = fault_of_placed-only f.variables (clauses_before f lines) 0 (walk ([] ∷ []) nodes) (Some b) (walk_of_fault f lines nodes b other) in
    let both : Some a ≡ Some b = sym one ∙ two in
    cc

accepted_has_no_fault : (f : Conjunction) (lines : List ProofLine) (nodes : List Node) (fault : TreeFault) → AcceptsTree f lines nodes → HasTreeFault f lines nodes fault → ⊥
accepted_has_no_fault f lines nodes fault accepts has =
    let one = fault_of_placed-only f.variables (clauses_before f lines) 0 (walk ([] ∷ []) nodes) None (walk_of_tree f lines nodes accepts) in
    let two = fault_of_placed-only f.variables (clauses_before f lines) 0 (walk ([] ∷ []) nodes) (Some fault) (walk_of_fault f lines nodes fault has) in
    let both : None ≡ Some fault = sym one ∙ two in
    cc

derived_has_no_fault : (f : Conjunction) (lines : List ProofLine) (found : FaultyLine) → AreDerived f lines → IsFirstFaulty f lines 0 found → ⊥
derived_has_no_fault f lines found derived first =
    faulty_not_derived f lines found (length lines) first (slice_get_within lines first.place first.line first.there) derived

-- ---- the points at which a verdict on a refutation is reached, each before the ones below it

abbrev refused : Reason → Verdict
refused reason = verdicts.Refused reason

abbrev AtNeeded : ClaimedRefutation → Verdict → Type 0
AtNeeded claim v =
    ((number : ℕ) × IsUnneeded number claim × (v ≡ refused (reasons.Unneeded number)))
    ⊎ ((claim.version ≡ Two → Needed claim.clauses claim.lines claim.nodes) × (v ≡ verdicts.NoDeadlock))

abbrev AtTree : Conjunction → ClaimedRefutation → Verdict → Type 0
AtTree f claim v =
    ((fault : TreeFault) × HasTreeFault f claim.lines claim.nodes fault × (v ≡ refused (reasons.Tree fault)))
    ⊎ (AcceptsTree f claim.lines claim.nodes × AtNeeded claim v)

abbrev AtLines : Conjunction → ClaimedRefutation → Verdict → Type 0
AtLines f claim v =
    ((found : FaultyLine) × IsFirstFaulty f claim.lines 0 found × (v ≡ refused (reasons.Line found)))
    ⊎ (AreDerived f claim.lines × AtTree f claim v)

abbrev AtCounts : MpiProgram → ClaimedRefutation → Verdict → Type 0
AtCounts p claim v = ((HasCounts p claim → ⊥) × (v ≡ refused reasons.Counts)) ⊎ (HasCounts p claim × AtLines (formula_of p) claim v)

abbrev AtClauses : MpiProgram → ClaimedRefutation → Verdict → Type 0
AtClauses p claim v =
    ((4000000 < length (formula_of p).clauses) × (v ≡ refused (reasons.Encode encoding.TooManyClauses)))
    ⊎ ((length (formula_of p).clauses ≤ 4000000) × AtCounts p claim v)

abbrev AtEvents : MpiProgram → ClaimedRefutation → Verdict → Type 0
AtEvents p claim v =
    ((1024 < length (events p)) × (v ≡ refused (reasons.Encode encoding.TooManyEvents)))
    ⊎ ((length (events p) ≤ 1024) × AtClauses p claim v)

abbrev AtPairs : MpiProgram → ClaimedRefutation → Verdict → Type 0
AtPairs p claim v =
    ((8192 < length (pairs_of p)) × (v ≡ refused (reasons.Pairs pairing.TooMany)))
    ⊎ ((length (pairs_of p) ≤ 8192) × AtEvents p claim v)

past_limits : (p : MpiProgram) (claim : ClaimedRefutation) (v : Verdict) → HasFormula p → AtCounts p claim v → AtPairs p claim v
past_limits p claim v within at = inr (within.few_pairs, inr (within.few_events, inr (within.few_clauses, at)))

point : (p : MpiProgram) (claim : ClaimedRefutation) (v : Verdict) → OnRefutation v p claim → AtPairs p claim v
point p claim verdicts.NoDeadlock is = past_limits p claim verdicts.NoDeadlock is.counts.formula (inr (is.counts, inr (is.accepted.lines_derived, inr (is.accepted.tree, inr (is.needed, refl)))))
point p claim verdicts.Deadlock is = absurd is
point p claim (verdicts.Refused (reasons.Pairs pairing.TooMany)) is = inl (is, refl)
point p claim (verdicts.Refused (reasons.Pairs pairing.Memory)) is = absurd is
point p claim (verdicts.Refused (reasons.Encode encoding.TooManyEvents)) is = inr (is.0, inl (is.1, refl))
point p claim (verdicts.Refused (reasons.Encode encoding.TooManyClauses)) is = inr (is.0, inr (is.1, inl (is.2, refl)))
point p claim (verdicts.Refused (reasons.Encode encoding.Memory)) is = absurd is
point p claim (verdicts.Refused reasons.Counts) is = past_limits p claim (refused reasons.Counts) is.0 (inl (is.1, refl))
point p claim (verdicts.Refused (reasons.Line found)) is = past_limits p claim (refused (reasons.Line found)) is.0.formula (inr (is.0, inl (found, is.1, refl)))
point p claim (verdicts.Refused (reasons.Tree fault)) is =
    past_limits p claim (refused (reasons.Tree fault)) is.0.formula (inr (is.0, inr (is.1.0, inl (fault, is.1.1, refl))))
point p claim (verdicts.Refused (reasons.Unneeded number)) is =
    past_limits p claim (refused (reasons.Unneeded number)) is.0.formula (inr (is.0, inr (is.1.0, inr (is.1.1, inl (number, is.1.2, refl)))))
point p claim (verdicts.Refused reasons.Memory) is = absurd is
point p claim (verdicts.Refused (reasons.Read fault)) is = absurd is
point p claim (verdicts.Refused (reasons.Resolve fault)) is = absurd is
point p claim (verdicts.Refused (reasons.Evidence fault)) is = absurd is
point p claim (verdicts.Refused (reasons.Replay at)) is = absurd is
point p claim (verdicts.Refused (reasons.NotStuck end)) is = absurd is

-- ---- each point has one verdict, and rules out the ones below it

-- two verdicts, each reached here as the same one or further below: where not both can be, they are
-- equal
here_or_below : (Here Past One Other : Type 0) (v w reached : Verdict) → (Here → Past → ⊥) → (One → Other → v ≡ w)
    → (Here × (v ≡ reached)) ⊎ (Past × One) → (Here × (w ≡ reached)) ⊎ (Past × Other) → v ≡ w
here_or_below Here Past One Other v w reached apart below (inl a) (inl b) = a.1 ∙ sym b.1
here_or_below Here Past One Other v w reached apart below (inl a) (inr b) = absurd (apart a.0 b.0)
here_or_below Here Past One Other v w reached apart below (inr a) (inl b) = absurd (apart b.0 a.0)
here_or_below Here Past One Other v w reached apart below (inr a) (inr b) = below a.1 b.1

at_needed : (claim : ClaimedRefutation) (v w : Verdict) → AtNeeded claim v → AtNeeded claim w → v ≡ w
at_needed claim v w (inl a) (inl b) =
    a.2 ∙ ap (λ (n : ℕ). refused (reasons.Unneeded n)) (one_unneeded claim.clauses claim.lines claim.nodes a.0 b.0 a.1.1 b.1.1) ∙ sym b.2
at_needed claim v w (inl a) (inr b) = absurd (needed_have_none claim.clauses claim.lines claim.nodes a.0 (b.0 a.1.0) a.1.1)
at_needed claim v w (inr a) (inl b) = absurd (needed_have_none claim.clauses claim.lines claim.nodes b.0 (a.0 b.1.0) b.1.1)
at_needed claim v w (inr a) (inr b) = a.1 ∙ sym b.1

at_tree : (f : Conjunction) (claim : ClaimedRefutation) (v w : Verdict) → AtTree f claim v → AtTree f claim w → v ≡ w
at_tree f claim v w (inl a) (inl b) =
    a.2 ∙ ap (λ (x : TreeFault). refused (reasons.Tree x)) (one_tree_fault f claim.lines claim.nodes a.0 b.0 a.1 b.1) ∙ sym b.2
at_tree f claim v w (inl a) (inr b) = absurd (accepted_has_no_fault f claim.lines claim.nodes a.0 b.0 a.1)
at_tree f claim v w (inr a) (inl b) = absurd (accepted_has_no_fault f claim.lines claim.nodes b.0 a.0 b.1)
at_tree f claim v w (inr a) (inr b) = at_needed claim v w a.1 b.1

at_lines : (f : Conjunction) (claim : ClaimedRefutation) (v w : Verdict) → AtLines f claim v → AtLines f claim w → v ≡ w
at_lines f claim v w (inl a) (inl b) = a.2 ∙ ap (λ (x : FaultyLine). refused (reasons.Line x)) (one_first f claim.lines a.0 b.0 a.1 b.1) ∙ sym b.2
at_lines f claim v w (inl a) (inr b) = absurd (derived_has_no_fault f claim.lines a.0 b.0 a.1)
at_lines f claim v w (inr a) (inl b) = absurd (derived_has_no_fault f claim.lines b.0 a.0 b.1)
at_lines f claim v w (inr a) (inr b) = at_tree f claim v w a.1 b.1

beyond : (limit n : ℕ) → limit < n → n ≤ limit → ⊥
beyond limit n more most = omega (arith, more, most)

pub one_on_refutation : (p : MpiProgram) (claim : ClaimedRefutation) (v w : Verdict) → OnRefutation v p claim → OnRefutation w p claim → v ≡ w
one_on_refutation p claim v w a b =
    let f = formula_of p in
    let counts : AtCounts p claim v → AtCounts p claim w → v ≡ w =
    here_or_below (HasCounts p claim → ⊥) (HasCounts p claim) (AtLines f claim v) (AtLines f claim w) v w (refused reasons.Counts) (λ never is. never is) (at_lines f claim v w) in
    let clauses : AtClauses p claim v → AtClauses p claim w → v ≡ w =
    here_or_below (4000000 < length f.clauses) (length f.clauses ≤ 4000000) (AtCounts p claim v) (AtCounts p claim w) v w (refused (reasons.Encode encoding.TooManyClauses)) (beyond 4000000 (length f.clauses)) counts in
    let of_events : AtEvents p claim v → AtEvents p claim w → v ≡ w =
    here_or_below (1024 < length (events p)) (length (events p) ≤ 1024) (AtClauses p claim v) (AtClauses p claim w) v w (refused (reasons.Encode encoding.TooManyEvents)) (beyond 1024 (length (events p))) clauses in
    here_or_below (8192 < length (pairs_of p)) (length (pairs_of p) ≤ 8192) (AtEvents p claim v) (AtEvents p claim w) v w (refused (reasons.Pairs pairing.TooMany)) (beyond 8192 (length (pairs_of p))) of_events (point p claim v a) (point p claim w b)
