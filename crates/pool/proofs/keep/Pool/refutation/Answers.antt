use Rattle.std.proofs.Common.{ℕ, List, IfOk, sym, ap, ◌∙◌, subst}
use Rattle.std.specs.Arc.{arc_value}
use Rattle.clauses.specs.Clauses.{Conjunction}
use Rattle.refutations.specs.Derivations.{clauses_before}
use Rattle.refutations.specs.Proofs.{ProofLine}
use Rattle.refutations.specs.Refutations.{AreDerived}
use Rattle.prooflog.specs.Refutations.{ClaimedRefutation}
use Rattle.encode.specs.Encodings.{EncodedProgram}
use Rattle.trees.specs.Laws.{AreLeavesRefuted}
use Rattle.pool.specs.Evidence.{IsTreeOf}
use Rattle.pool.specs.States.{PoolWithHistory, IsOpenLeaf}
use Rattle.pool.proofs.Assembling.{all_refuted, refuted_as}
use Rattle.pool.proofs.keep.Pool.refutation.Goals as goal

pub refutation_of-requires-clause-derived : goal.refutation_of-requires-clause-derived
refutation_of-requires-clause-derived c =
    subst (AreDerived c.formula-formula.result.now) (sym c.in_ok-lines.ensures)
    (subst (λ (f : Conjunction). AreDerived f c.self.inside.log) (sym (c.formula-formula.ensures.same ∙ ap (λ (e : EncodedProgram). e.formula) c.deref.ensures)) c.self.invariant.0.derived)

pub refutation_of-requires-clause-refuted : goal.refutation_of-requires-clause-refuted
refutation_of-requires-clause-refuted c =
    subst (λ (log : List ProofLine). AreLeavesRefuted c.self.inside.tree.nodes (clauses_before c.formula-formula.result.now log) c.as_slice.result.now) (sym c.in_ok-lines.ensures)
    (refuted_as (arc_value c.self.inside.encoded).formula c.formula-formula.result.now c.self.inside.log c.self.inside.tree.nodes c.self.inside.closed.items c.as_slice.result.now (c.formula-formula.ensures.same ∙ ap (λ (e : EncodedProgram). e.formula) c.deref.ensures) c.as_slice.ensures.value
    (all_refuted _ c.self.invariant.0 (λ leaf is. c.requires leaf (subst (λ (k : PoolWithHistory). IsOpenLeaf k.held leaf) c.self.view_is is))))

pub returns-clause-tree : goal.returns-clause-tree
returns-clause-tree c =
    let nodes = c.self.inside.tree.nodes in
    let result = c.refutation_of.result in
    subst (λ (k : PoolWithHistory). IfOk result (λ (claim : ClaimedRefutation). IsTreeOf k.held.tree.nodes k.held.closed claim.nodes)) c.self.view_is
    (subst (λ (numbers : List ℕ). IfOk result (λ (claim : ClaimedRefutation). IsTreeOf nodes numbers claim.nodes)) c.as_slice.ensures.value c.refutation_of.ensures.tree)
