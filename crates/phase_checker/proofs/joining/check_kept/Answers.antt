use Rattle.std.proofs.Common.{refl}
use Rattle.phase_checker.proofs.Dealing.{earlier_is_late, other_place}
use Rattle.phase_checker.proofs.joining.check_kept.Goals as goal

pub returns-then-not-leaves_nothing-clause-why : goal.returns-then-not-leaves_nothing-clause-why
returns-then-not-leaves_nothing-clause-why c =
    λ phases order found is. (
      refl,
      earlier_is_late phases order c.args.place c.args.phase.now is c.args.early found c.requires (other_place c.args.early c.args.place c.eq.result c.eq.ensures c.if-eq.false),
      λ even. let e = c.leaves_nothing.ensures.1 even in absurd (cc),
    )

pub returns-clause-kept : goal.returns-clause-kept
returns-clause-kept c =
    λ phases order found is.
    record {
      late = earlier_is_late phases order c.args.place c.args.phase.now is c.args.early found c.requires (other_place c.args.early c.args.place c.eq.result c.eq.ensures c.if-eq.false);
      even = c.leaves_nothing.ensures.0 c.if-not-leaves_nothing.false;
    }
