use Rattle.std.proofs.Common.{◌≡◌, ℕ, List, length, ap, ◌∙◌, refl, sym, subst, arith}
use Rattle.std.specs.Arc.{arc_value}
use Rattle.clauses.specs.Clauses.{Conjunction}
use Rattle.refutations.specs.Refutations.{Accepts, AreDerived}
use Rattle.encode.specs.Encodings.{EncodedProgram}
use Rattle.pool.specs.Evidence.{IsRefutationOf, IsTreeOf, IsUndecidedPool}
use Rattle.pool.specs.States.{PoolWithHistory, IsOpenLeaf}
use Rattle.pool.proofs.Assembling.{all_refuted, none_mapped, refuted_as}
use Rattle.pool.proofs.OpenLeaves.{open_counts, some_open}
use Rattle.pool.proofs.keep.Pool.into_evidence.Goals as goal

pub returns-then-open_leaves-gt0-clause-open : goal.returns-then-open_leaves-gt0-clause-open
returns-then-open_leaves-gt0-clause-open c = (
  λ _.
      let some = some_open c.self.inside.tree.nodes c.self.inside.closed.items (omega (arith, c.if-open_leaves-gt0.true, c.self.invariant.1)) in
      subst (λ (k : PoolWithHistory). IsUndecidedPool k.held) c.self.view_is
      (none_mapped _ c.self.inside.schedule c.in_default.is, some.0, (some.1, some.2)),
  λ _. refl,
)

pub refutation_by-requires-clause-derived : goal.refutation_by-requires-clause-derived
refutation_by-requires-clause-derived c =
    subst (λ (f : Conjunction). AreDerived f c.self.inside.log) (sym (c.formula.ensures.same ∙ ap (λ (e : EncodedProgram). e.formula) c.deref-2.ensures)) c.self.invariant.0.derived

pub refutation_by-requires-clause-refuted : goal.refutation_by-requires-clause-refuted
refutation_by-requires-clause-refuted c =
    refuted_as (arc_value c.self.inside.encoded).formula c.formula.result.now c.self.inside.log c.self.inside.tree.nodes c.self.inside.closed.items c.as_slice.result.now (c.formula.ensures.same ∙ ap (λ (e : EncodedProgram). e.formula) c.deref-2.ensures) c.as_slice.ensures.value
    (all_refuted _ c.self.invariant.0 (λ leaf is. omega (arith, c.if-open_leaves-gt0.false, c.self.invariant.1, open_counts c.self.inside.tree.nodes c.self.inside.closed.items leaf is.0 is.1)))

pub returns-in-Ok-clause-evidence : goal.returns-in-Ok-clause-evidence
returns-in-Ok-clause-evidence c =
    let formula_is : c.formula.result.now ≡ (arc_value c.self.inside.encoded).formula = c.formula.ensures.same ∙ ap (λ (e : EncodedProgram). e.formula) c.deref-2.ensures in
    subst (λ (k : PoolWithHistory). IsRefutationOf k.held c.in-Ok.moved) c.self.view_is
    (record {
      none_found = none_mapped _ c.self.inside.schedule c.in_default.is;
      none_open = λ leaf is. omega (arith, c.if-open_leaves-gt0.false, c.self.invariant.1, open_counts c.self.inside.tree.nodes c.self.inside.closed.items leaf is.0 is.1);
      version = c.in-Ok.ensures.version;
      variables = c.in-Ok.ensures.variables ∙ ap (λ (f : Conjunction). f.variables) formula_is;
      clauses = c.in-Ok.ensures.clauses ∙ ap (λ (f : Conjunction). length f.clauses) formula_is;
      lines = c.in-Ok.ensures.lines;
      tree = subst (λ (numbers : List ℕ). IsTreeOf c.self.inside.tree.nodes numbers c.in-Ok.moved.nodes) c.as_slice.ensures.value c.in-Ok.ensures.tree;
      accepted = subst (λ (f : Conjunction). Accepts f c.in-Ok.moved.lines c.in-Ok.moved.nodes) formula_is c.in-Ok.ensures.accepted;
    })

pub returns-in-Ok-clause-open : goal.returns-in-Ok-clause-open
returns-in-Ok-clause-open c = (
  λ e. absurd (cc),
  λ u.
      let is = subst (λ (k : PoolWithHistory). IsOpenLeaf k.held u.1) (sym c.self.view_is) u.2 in
      absurd (omega (arith, c.if-open_leaves-gt0.false, c.self.invariant.1, open_counts c.self.inside.tree.nodes c.self.inside.closed.items u.1 is.0 is.1)),
)

pub returns-clause-open : goal.returns-clause-open
returns-clause-open c = (
  λ e. absurd (cc),
  λ u.
      let is = subst (λ (k : PoolWithHistory). IsOpenLeaf k.held u.1) (sym c.self.view_is) u.2 in
      absurd (omega (arith, c.if-open_leaves-gt0.false, c.self.invariant.1, open_counts c.self.inside.tree.nodes c.self.inside.closed.items u.1 is.0 is.1)),
)
