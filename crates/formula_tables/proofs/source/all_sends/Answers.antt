use Rattle.formula_tables.proofs.Rows.{rows_more}
use Rattle.formula_tables.proofs.source.all_sends.Goals as goal

pub loop-call-preserved : goal.loop-call-preserved
loop-call-preserved c = rows_more (λ row. row.items) _ c.loop-call.call c.loop-call.rows.items _ _ c.loop-call.invariant c.in_ok-push.ensures.items c.in_ok-sends_of.ensures
