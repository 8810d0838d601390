use Rattle.std.proofs.Common.{ap, arith, ◌∙◌}
use Rattle.steal.specs.declared.rule.Hand.{Hand}
use Rattle.steal.proofs.Moves.{merges}
use Rattle.steal.proofs.Joins.{with_thief}
use Rattle.steal.proofs.tally.joined.Goals as goal

pub absorb-requires-clause-rule : goal.absorb-requires-clause-rule
absorb-requires-clause-rule c = merges _ _ _ _ (omega (arith, c.requires.parts, ap (λ (v : Hand). v.parts) c.loop-seat.invariant.4))

pub loop-seat-preserved : goal.loop-seat-preserved
loop-seat-preserved c =
    let before = c.loop-seat.invariant in
    let seat = c.in-Some.seat in (
      tt,
      tt,
      c.absorb.ensures.same.0.0 ∙ before.2,
      c.absorb.ensures.same.0.1 ∙ before.3,
      with_thief _ _ _ _ seat before.4 seat.part seat.no_push c.absorb.ensures.rule,
    )
