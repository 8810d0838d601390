use Rattle.knowledge.specs.parts.Knowledge.{CoversJustified}
use Rattle.knowledge.specs.Knowledge.{with_partners}
use Rattle.knowledge.proofs.column.column_of.Given as goal

abbrev pub invariant-loop-call : goal.invariant-loop-call
invariant-loop-call l = CoversJustified l.program (with_partners l.partners) l.finder l.known.items
