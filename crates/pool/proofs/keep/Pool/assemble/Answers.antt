use Rattle.std.proofs.Common.{refl, sym, subst, arith}
use Rattle.std.specs.Option.{IsNone}
use Rattle.pool.specs.Evidence.{IsUndecidedPool}
use Rattle.pool.specs.States.{PoolWithHistory, IsOpenLeaf}
use Rattle.pool.proofs.Assembling.{none_mapped}
use Rattle.pool.proofs.OpenLeaves.{open_counts, some_open}
use Rattle.pool.proofs.keep.Pool.assemble.Goals as goal

pub returns-then-self-gt0-clause-open : goal.returns-then-self-gt0-clause-open
returns-then-self-gt0-clause-open c = (
  λ _.
      let some = some_open c.self.inside.tree.nodes c.self.inside.closed.items (omega (arith, c.if-self-gt0.true, c.self.invariant.1)) in
      subst (λ (k : PoolWithHistory). IsUndecidedPool k.held) c.self.view_is
      (none_mapped _ c.self.inside.schedule c.in_default.is, some.0, (some.1, some.2)),
  λ _. refl,
)

pub refutation-requires : goal.refutation-requires
refutation-requires c = λ leaf now_open.
    let is = subst (λ (k : PoolWithHistory). IsOpenLeaf k.held leaf) (sym c.self.view_is) now_open in
    omega (arith, c.if-self-gt0.false, c.self.invariant.1, open_counts c.self.inside.tree.nodes c.self.inside.closed.items leaf is.0 is.1)

pub returns-in-Ok-refutation-clause-evidence : goal.returns-in-Ok-refutation-clause-evidence
returns-in-Ok-refutation-clause-evidence c =
    record {
      none_found = subst (λ (k : PoolWithHistory). IsNone k.held.schedule) c.self.view_is (none_mapped _ c.self.inside.schedule c.in_default.is);
      none_open = λ leaf now_open.
          let is = subst (λ (k : PoolWithHistory). IsOpenLeaf k.held leaf) (sym c.self.view_is) now_open in
          omega (arith, c.if-self-gt0.false, c.self.invariant.1, open_counts c.self.inside.tree.nodes c.self.inside.closed.items leaf is.0 is.1);
      version = c.in-Ok-refutation.ensures.version;
      variables = c.in-Ok-refutation.ensures.variables;
      clauses = c.in-Ok-refutation.ensures.clauses;
      lines = c.in-Ok-refutation.ensures.lines;
      tree = c.in-Ok-refutation.ensures.tree;
      accepted = c.in-Ok-refutation.ensures.accepted;
    }

pub returns-in-Ok-refutation-clause-open : goal.returns-in-Ok-refutation-clause-open
returns-in-Ok-refutation-clause-open c = (
  λ e. absurd (cc),
  λ u.
      let is = subst (λ (k : PoolWithHistory). IsOpenLeaf k.held u.1) (sym c.self.view_is) u.2 in
      absurd (omega (arith, c.if-self-gt0.false, c.self.invariant.1, open_counts c.self.inside.tree.nodes c.self.inside.closed.items u.1 is.0 is.1)),
)

pub returns-in-Err-refutation-clause-open : goal.returns-in-Err-refutation-clause-open
returns-in-Err-refutation-clause-open c = (
  λ e. absurd (cc),
  λ u.
      let is = subst (λ (k : PoolWithHistory). IsOpenLeaf k.held u.1) (sym c.self.view_is) u.2 in
      absurd (omega (arith, c.if-self-gt0.false, c.self.invariant.1, open_counts c.self.inside.tree.nodes c.self.inside.closed.items u.1 is.0 is.1)),
)
