use Rattle.spmd_program.proofs.RankTexts.{AreRanksBegun}
use Rattle.spmd_program.proofs.program.program_text.Given as goal

-- the ranks so far are written, and these calls are left
abbrev pub invariant-loop-rank : goal.invariant-loop-rank
invariant-loop-rank l = AreRanksBegun l.names l.calls l.left l.rank l.initial.out.items l.out.items
