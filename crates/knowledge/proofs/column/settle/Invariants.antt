use Rattle.knowledge.specs.parts.Knowledge.{CoversJustified, count_known}
use Rattle.knowledge.specs.Knowledge.{with_partners}
use Rattle.knowledge.proofs.column.settle.Given as goal

abbrev pub invariant-passes : goal.invariant-passes
invariant-passes l =
    CoversJustified l.program (with_partners l.partners) l.finder l.fn.known.items → CoversJustified l.program (with_partners l.partners) l.finder l.known.items

abbrev pub decreases-passes : goal.decreases-passes
decreases-passes l = count_known l.known.items
