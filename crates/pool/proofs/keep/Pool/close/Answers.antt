use Rattle.std.proofs.Common.{rules, arith}
use Rattle.pool.proofs.OpenLeaves.{open_counts, count_closed}
use Rattle.pool.proofs.Soundness.{sound_with, sound_close, not_zero}
use Rattle.pool.proofs.keep.Pool.close.Goals as goal

pub overflow_sub-self : goal.overflow_sub-self
overflow_sub-self c =
    let is = c.is_open.ensures.open.0 c.if-not-is_open.false in
    omega (arith, c.self.invariant.1, open_counts c.self.inside.tree.nodes c.self.inside.closed.items c.args.leaf is.0 is.1)

pub invariant_of-self-4 : goal.invariant_of-self-4
invariant_of-self-4 c =
    let is = c.is_open.ensures.open.0 c.if-not-is_open.false in
    let refuted = c.is_closed_by.ensures.0 c.if-not-is_closed_by.false in
    let counted = count_closed c.self.inside.tree.nodes c.self.inside.closed.items c.args.leaf c.args.number is.0 is.1 (not_zero _ _ c.args.number refuted) in (
      sound_with _ c.answer-2.new.self.reasons (sound_close _ c.args.leaf c.args.number c.self.invariant.0 refuted),
      omega (arith, c.self.invariant.1, counted),
      c.self.invariant.2,
    )

pub returns-clause-pool : goal.returns-clause-pool
returns-clause-pool c = search rules
