use Rattle.std.proofs.Common.{List, IsTrue, subst}
use Rattle.std.specs.Prelude.{IfSome}
use Rattle.refutations.specs.declared.batch.BatchLine.{BatchLine}
use Rattle.pool.specs.Moves.{are_earlier, number_after}
use Rattle.pool.specs.Replies.{resolved_lines, DeriveAfter}
use Rattle.sharedpool.specs.Seats.{IsDerivedFrom}
use Rattle.sharedpool.proofs.Told.{both_some}
use Rattle.sharedpool.proofs.seat.derived_from.Goals as goal

pub returns-clause-derived : goal.returns-clause-derived
returns-clause-derived c =
    let f = c.args.formula.now in
    let view = c.args.view.now in
    let read = c.as_slice.result.now in
    subst (λ (lines : List BatchLine). IfSome c.derived_lines.result (λ _. IsDerivedFrom f view lines)) c.as_slice.ensures.value
    (both_some (IsTrue (are_earlier (number_after f view) read)) (DeriveAfter f view (resolved_lines (number_after f view) read)) c.derived_lines.result c.derived_lines.ensures.earlier c.derived_lines.ensures.derived)
