use Rattle.formula_tables.proofs.Rows.{sends_found}
use Rattle.formula_tables.proofs.source.ProgramTables.sends_of.Goals as goal

pub returns : goal.returns
returns c = sends_found c.args.self.now c.self.inside.program.now _ c.args.taker _ c.self.invariant.sends_are c.self.view_is c.row.ensures
