use Rattle.knowledge.specs.Knowledge.{with_partners}
use Rattle.knowledge.proofs.Entries.{IsPassed}
use Rattle.knowledge.proofs.column.take_out_all_untold.Given as goal

abbrev pub invariant-loop-call : goal.invariant-loop-call
invariant-loop-call l = IsPassed l.program (with_partners l.partners) l.finder l.fn.known.items l.known.items l.changed l.call
