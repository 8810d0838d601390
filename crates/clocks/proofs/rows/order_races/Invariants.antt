use Rattle.std.proofs.Common.{ℕ, IsTrue}
use Rattle.races.specs.Tells.{Table}
use Rattle.clocks.specs.parts.Clocks.{AreOrdered, IsRow}
use Rattle.clocks.proofs.rows.order_races.Given as goal

abbrev pub invariant-loop-place : goal.invariant-loop-place
invariant-loop-place l =
    (knows more : Table) → AreOrdered knows l.asked l.fn.ordered.items → ((c f : ℕ) → IsTrue (knows c f) → IsTrue (more c f)) → IsRow l.columns (more l.call) l.row
    → AreOrdered more l.asked l.ordered.items
