use Rattle.formula.specs.Orders.{is_among}
use Rattle.formula_families.proofs.Marking.{row_step}
use Rattle.formula_families.proofs.used.push_row.Goals as goal

pub loop-second-preserved : goal.loop-second-preserved
loop-second-preserved c =
    λ orders h. row_step (is_among orders) c.args.first c.loop-second.second _ c.args.used.now.items c.loop-second.used.items _ c.loop-second.auto.second (c.loop-second.invariant orders h) c.in_ok-push_marked.ensures (h c.args.first c.loop-second.second c.requires.first c.loop-second-test.true)
