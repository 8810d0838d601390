use Rattle.std.proofs.Common.{ℕ, Option, sym, subst}
use Rattle.races.specs.Tells.{knows_at}
use Rattle.clocks.specs.parts.Clocks.{AddsToRow}
use Rattle.clocks.proofs.rows.join_at.Goals as goal

pub returns-in-Some : goal.returns-in-Some
returns-in-Some c = subst (λ (o : Option ℕ). AddsToRow c.args.columns.now c.args.rows.now (λ knows f. knows_at knows o f) c.args.row.now.items c.join_row.new.row.items) (sym c.in-Some.is) c.join_row.ensures
