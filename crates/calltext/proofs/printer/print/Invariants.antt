use Rattle.std.proofs.Common.{◌≡◌, ◌++◌, length, take}
use Rattle.calltext.specs.Body.{views}
use Rattle.calltext.specs.parts.Body.{heads, ranks_text}
use Rattle.calltext.proofs.printer.print.Given as goal

abbrev pub invariant-loop-rank : goal.invariant-loop-rank
invariant-loop-rank l = l.out.items ≡ heads (length l.source.ranks) l.source.policy ++ ranks_text 0 (views (take l.rank l.ranks))
