use Rattle.std.proofs.Common.{rules}
use Rattle.tree_lines.proofs.joining.next_number.Goals as goal

pub returns-clause-next : goal.returns-clause-next
returns-clause-next c = search rules

pub returns-clause-number : goal.returns-clause-number
returns-clause-number c = search rules
