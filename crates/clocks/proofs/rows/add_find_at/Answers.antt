use Rattle.std.proofs.Common.{ℕ, Option, sym, subst}
use Rattle.clocks.specs.parts.Clocks.{AddsToRow, tells_find_at}
use Rattle.knowledge.specs.Knowledge.{with_partners}
use Rattle.clocks.proofs.rows.add_find_at.Goals as goal

pub returns-in-Some : goal.returns-in-Some
returns-in-Some c = subst (λ (o : Option ℕ). AddsToRow c.args.columns.now c.args.rows.now (λ knows f. tells_find_at (with_partners c.args.partners.now) knows o f) c.args.row.now.items c.add_find.new.row.items) (sym c.in-Some.is) c.add_find.ensures
