use Rattle.formula_tables.proofs.Rows.{takers_found}
use Rattle.formula_tables.proofs.source.ProgramTables.takers_of.Goals as goal

pub returns : goal.returns
returns c = takers_found c.args.self.now c.self.inside.program.now _ c.args.send _ c.self.invariant.takers_are c.self.view_is c.row.ensures
