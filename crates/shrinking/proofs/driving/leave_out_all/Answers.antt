use Rattle.std.proofs.Common.{subst, ℕ, List}
use Rattle.shrinking.specs.Shrinking.{IsShrunk}
use Rattle.shrinking.proofs.Kept.{kept}
use Rattle.shrinking.proofs.driving.leave_out_all.Goals as goal

pub returns-clause-shrunk : goal.returns-clause-shrunk
returns-clause-shrunk c =
    kept (IsShrunk c.args.text.now) c.leave_out_turns.new.best.text.items c.shrunk_of.result
    (subst (λ (t : List ℕ). IsShrunk t c.leave_out_turns.new.best.text.items) c.in_ok-best.ensures c.in_ok-complete.ensures) c.shrunk_of.ensures.same
