use Rattle.std.proofs.Common.{◌+◌, Some, take, ap, sym, subst, ◌∙◌}
use Rattle.pool.specs.declared.why.Why.{Why}
use Rattle.pool.specs.Reasons.{IsSmallest}
use Rattle.pool.proofs.SmallestReasons.{smallest_more, smallest_begun}
use Rattle.pool.proofs.why.smallest.Goals as goal
use Rattle.pool.proofs.why.smallest.Goals.{in-Some, in-None}

pub loop-why-preserved : goal.loop-why-preserved
loop-why-preserved c =
    let xs = c.args.reasons.now in
    let i = c.loop-why.why-index in
    elim c.match-smallest.branch [
      | in-Some w ↦ subst (IsSmallest (take (i + 1) xs)) (sym (w.smallest-is ∙ ap (λ (v : Why). Some v) w.smaller.ensures)) (smallest_more xs i _ w.in-Some.known c.loop-why-test.true (subst (IsSmallest (take i xs)) w.in-Some.is c.loop-why.invariant))
      | in-None w ↦ subst (IsSmallest (take (i + 1) xs)) (sym w.smallest-is) (smallest_begun xs i _ c.loop-why-test.true (subst (IsSmallest (take i xs)) w.in-None.is c.loop-why.invariant))
    ]
