use Rattle.std.proofs.Common.{length, refl}
use Rattle.formula.specs.Families.{events}
use Rattle.formula.specs.Orders.{places_in}
use Rattle.formula_families.proofs.Marking.{marks_step}
use Rattle.formula_families.proofs.used.mark_clause.Goals as goal

pub loop-statement-preserved : goal.loop-statement-preserved
loop-statement-preserved c =
    let p = c.args.events.now in
    marks_step (length (events p)) (places_in p) c.args.clause.now c.loop-statement.statement-index _ _ c.args.marks.now c.loop-statement.marks c.mark_statement.new.marks c.loop-statement-test.true refl c.loop-statement.invariant c.mark_statement.ensures
