use Rattle.std.proofs.Common.{◌≤◌, IfSome}
use Rattle.phase_checker.proofs.Dealing.{IsDealtTo}
use Rattle.phase_checker.proofs.joining.deal_all.Given as goal

abbrev pub invariant-loop-place : goal.invariant-loop-place
invariant-loop-place l =
    record {
      so_far : IsDealtTo l.phases l.order l.program l.next.items l.place;
      before : IfSome l.early (λ first. l.place ≤ first);
    }
