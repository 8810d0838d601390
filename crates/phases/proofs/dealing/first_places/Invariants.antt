use Rattle.phases.proofs.Dealt.{AreFirst}
use Rattle.phases.proofs.dealing.first_places.Given as goal

abbrev pub invariant-loop-rank : goal.invariant-loop-rank
invariant-loop-rank l = AreFirst l.program l.next.items l.place l.rank
