use Rattle.std.proofs.Common.{map}
use Rattle.formula.specs.Orders.{between, is_among}
use Rattle.formula_families.proofs.Marking.{rows_step}
use Rattle.formula_families.proofs.used.marked.Goals as goal

pub loop-first-preserved : goal.loop-first-preserved
loop-first-preserved c =
    λ orders h. rows_step (is_among orders) (λ e. map (λ f. (e, f)) (between e c.args.most)) c.loop-first.first c.loop-first.used.items _ (c.loop-first.invariant orders h) (c.in_ok-push_row.ensures orders h)
