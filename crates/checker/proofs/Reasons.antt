-- From the parts of a verdict to its reason.
use Rattle.std.proofs.Common.{◌≡◌, ◌⊎◌, ℕ, true, List, length, Result, Ok, Err, IfOk, IfErr, ◌==◌, refl, sym, ◌∙◌, ap, subst, inl, inr}
use Rattle.std.proofs.lemmas.Bool.{and_parts, eqb-true}
use Rattle.callorder.specs.Programs.{MpiProgram}
use Rattle.clauses.specs.Clauses.{Conjunction}
use Rattle.formula.specs.Numbering.{formula_of}
use Rattle.prooflog.specs.Refutations.{ClaimedRefutation}
use Rattle.refutations.specs.declared.tree.Node.{Node}
use Rattle.refutations.specs.declared.tree_check.TreeFault.{TreeFault}
use Rattle.refutations.specs.declared.tree_check.TreeFault.TheVariants as tree
use Rattle.refutations.specs.Proofs.{ProofLine}
use Rattle.refutations.specs.Refutations.{Accepts, AreDerived}
use Rattle.refutations.specs.Trees.{AcceptsTree, HasTreeFault}
use Rattle.trimming.specs.Needed.{Needed}
use Rattle.prooflog.specs.declared.refutation.Version.TheVariants.{Two}
use Rattle.checker.specs.declared.reason.Reason.{Reason}
use Rattle.checker.specs.declared.reason.Reason.TheVariants as reasons
use Rattle.checker.specs.declared.reason.NoRun.TheVariants as runs
use Rattle.checker.specs.Verdicts.{AreRefuted, HasCounts, IsProgramReason, IsRefutedBy, IsUnneeded, IsUnrefuted, IsUnaccepted, HasFormula, RefutesProgram}
use Rattle.checker.specs.Parts.{IsNoRun, has_counts, tree_reason}

-- a program that is refused has no stuck run
pub is_no_run : (program evidence : List ℕ) (reason : Reason) → IsProgramReason program reason → IsNoRun program evidence (runs.Refused reason)
is_no_run program evidence reasons.Memory is = (tt, refl)
is_no_run program evidence (reasons.Read fault) is = (is.1 evidence, refl)
is_no_run program evidence (reasons.Resolve fault) is = (is.1 evidence, refl)
is_no_run program evidence (reasons.Evidence fault) is = absurd (let never = is.0 in cc)
is_no_run program evidence (reasons.Pairs fault) is = absurd (let never = is.0 in cc)
is_no_run program evidence (reasons.Encode fault) is = absurd (let never = is.0 in cc)
is_no_run program evidence reasons.Counts is = absurd (let never = is.0 in cc)
is_no_run program evidence (reasons.Line found) is = absurd (let never = is.0 in cc)
is_no_run program evidence (reasons.Tree fault) is = absurd (let never = is.0 in cc)
is_no_run program evidence (reasons.Unneeded number) is = absurd (let never = is.0 in cc)
is_no_run program evidence (reasons.Replay at) is = absurd (let never = is.0 in cc)
is_no_run program evidence (reasons.NotStuck end) is = absurd (let never = is.0 in cc)

-- a refutation with the counts of the program's formula doesn't refute the program where it isn't
-- accepted for that formula
unaccepted_is_unrefuted : (p : MpiProgram) (claim : ClaimedRefutation) (reason : Reason) → HasCounts p claim → IsUnaccepted reason (formula_of p) claim → IsUnrefuted reason p claim
unaccepted_is_unrefuted p claim (reasons.Line found) counts why = (counts, why)
unaccepted_is_unrefuted p claim (reasons.Tree fault) counts why = (counts, why)
unaccepted_is_unrefuted p claim (reasons.Unneeded number) counts why = (counts, why)
unaccepted_is_unrefuted p claim reasons.Memory counts why = absurd why
unaccepted_is_unrefuted p claim (reasons.Read fault) counts why = absurd why
unaccepted_is_unrefuted p claim (reasons.Resolve fault) counts why = absurd why
unaccepted_is_unrefuted p claim (reasons.Evidence fault) counts why = absurd why
unaccepted_is_unrefuted p claim (reasons.Pairs fault) counts why = absurd why
unaccepted_is_unrefuted p claim (reasons.Encode fault) counts why = absurd why
unaccepted_is_unrefuted p claim reasons.Counts counts why = absurd why
unaccepted_is_unrefuted p claim (reasons.Replay at) counts why = absurd why
unaccepted_is_unrefuted p claim (reasons.NotStuck end) counts why = absurd why

pub why_unaccepted : (p : MpiProgram) (f : Conjunction) (claim : ClaimedRefutation) (reason : Reason) → f ≡ formula_of p → HasCounts p claim → (reason ≡ reasons.Memory) ⊎ IsUnaccepted reason f claim → (reason ≡ reasons.Memory) ⊎ IsUnrefuted reason p claim
why_unaccepted p f claim reason is counts (inl memory) = inl memory
why_unaccepted p f claim reason is counts (inr why) =
    inr (unaccepted_is_unrefuted p claim reason counts (subst (λ (g : Conjunction). IsUnaccepted reason g claim) is why))

-- a refutation that is accepted for the program's formula refutes the program
pub accepted_refute : (p : MpiProgram) (f : Conjunction) (claim : ClaimedRefutation) → f ≡ formula_of p → HasCounts p claim → Accepts f claim.lines claim.nodes → (claim.version ≡ Two → Needed claim.clauses claim.lines claim.nodes) → IsRefutedBy p claim
accepted_refute p f claim is counts accepts needed = record {
  counts = counts;
  accepted = subst (λ (g : Conjunction). Accepts g claim.lines claim.nodes) is accepts;
  needed = needed;
}

-- what is refuted is refuted by its text
pub refuted_refute : (program evidence : List ℕ) (f : Conjunction) (claim : ClaimedRefutation) → AreRefuted program evidence f claim → RefutesProgram program evidence
refuted_refute program evidence f claim are = record {
  p = are.p;
  claim = claim;
  text = are.text;
  refutation = are.refutation;
  holds = are.refuted;
}

-- ---- counts

pub counts_agree : (p : MpiProgram) (f : Conjunction) (claim : ClaimedRefutation) → HasFormula p → f ≡ formula_of p → has_counts claim f ≡ true → HasCounts p claim
counts_agree p f claim within is same =
    let both = and_parts (claim.variables == f.variables) (claim.clauses == length f.clauses) same in
    record {
      formula = within;
      variables = eqb-true claim.variables f.variables both.0 ∙ ap (λ (g : Conjunction). g.variables) is;
      clauses = eqb-true claim.clauses (length f.clauses) both.1 ∙ ap (λ (g : Conjunction). length g.clauses) is;
    }

-- ---- lines and trees

pub accepts_so : (r : Result (Unit {0}) Reason) (f : Conjunction) (claim : ClaimedRefutation) (lines : List ProofLine) (nodes : List Node) → lines ≡ claim.lines → nodes ≡ claim.nodes
    → AreDerived f lines → AcceptsTree f lines nodes → IfOk r (λ done. Accepts f claim.lines claim.nodes)
accepts_so (Ok u) f claim lines nodes same_lines same_nodes derived tree =
    subst (λ (l : List ProofLine). Accepts f l claim.nodes) same_lines (subst (Accepts f lines) same_nodes (record { lines_derived = derived; tree = tree }))
accepts_so (Err reason) f claim lines nodes same_lines same_nodes derived tree = tt

pub why_unneeded : (r : Result (Unit {0}) Reason) (f : Conjunction) (claim : ClaimedRefutation) (lines : List ProofLine) (nodes : List Node) → lines ≡ claim.lines → nodes ≡ claim.nodes
    → AreDerived f lines → AcceptsTree f lines nodes
    → IfErr r (λ reason. (reason ≡ reasons.Memory) ⊎ ((number : ℕ) × (reason ≡ reasons.Unneeded number) × IsUnneeded number claim))
    → IfErr r (λ reason. (reason ≡ reasons.Memory) ⊎ IsUnaccepted reason f claim)
why_unneeded (Ok u) f claim lines nodes same_lines same_nodes derived tree why = tt
why_unneeded (Err reason) f claim lines nodes same_lines same_nodes derived tree (inl memory) = inl memory
why_unneeded (Err reason) f claim lines nodes same_lines same_nodes derived tree (inr (number, is, unneeded)) =
    let accepts : Accepts f claim.lines claim.nodes = accepts_so (Ok tt) f claim lines nodes same_lines same_nodes derived tree in
    inr (subst (λ (r : Reason). IsUnaccepted r f claim) (sym is) (accepts.lines_derived, accepts.tree, unneeded))

pub why_tree : (f : Conjunction) (claim : ClaimedRefutation) (lines : List ProofLine) (nodes : List Node) (fault : TreeFault) → lines ≡ claim.lines → nodes ≡ claim.nodes → AreDerived f lines
    → HasTreeFault f lines nodes fault ⊎ (fault ≡ tree.Memory) → (tree_reason fault ≡ reasons.Memory) ⊎ IsUnaccepted (tree_reason fault) f claim
why_tree f claim lines nodes tree.Memory same_lines same_nodes derived why = inl refl
why_tree f claim lines nodes fault same_lines same_nodes derived (inr memory) = inl (ap tree_reason memory)
why_tree f claim lines nodes (tree.Leaf node) same_lines same_nodes derived (inl why) =
    inr (subst (AreDerived f) same_lines derived, subst (λ (l : List ProofLine). HasTreeFault f l claim.nodes (tree.Leaf node)) same_lines (subst (λ (n : List Node). HasTreeFault f lines n (tree.Leaf node)) same_nodes why))
why_tree f claim lines nodes (tree.Number node) same_lines same_nodes derived (inl why) =
    inr (subst (AreDerived f) same_lines derived, subst (λ (l : List ProofLine). HasTreeFault f l claim.nodes (tree.Number node)) same_lines (subst (λ (n : List Node). HasTreeFault f lines n (tree.Number node)) same_nodes why))
