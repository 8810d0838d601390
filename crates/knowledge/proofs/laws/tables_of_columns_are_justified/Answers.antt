use Rattle.knowledge.proofs.Entries.{table_of_columns_justified}
use Rattle.knowledge.proofs.laws.tables_of_columns_are_justified.Goals as goal

pub returns : goal.returns
returns c = table_of_columns_justified
