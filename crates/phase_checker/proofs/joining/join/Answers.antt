use Rattle.phase_checker.proofs.Texts.{are_joined, is_not_joined}
use Rattle.phase_checker.proofs.Wholes.{joined_are_never_stuck}
use Rattle.phase_checker.proofs.joining.join.Goals as goal

pub returns-in-Ok-deal_all-clause-never : goal.returns-in-Ok-deal_all-clause-never
returns-in-Ok-deal_all-clause-never c =
    joined_are_never_stuck c.args.text.now c.args.phases.now c.args.order.now
    (are_joined c.args.text.now c.args.phases.now c.args.order.now c.in_ok-program.program c.in_ok-program.ensures.program c.in-Ok-deal_all.ensures.all)

pub returns-in-Ok-deal_all-clause-joined : goal.returns-in-Ok-deal_all-clause-joined
returns-in-Ok-deal_all-clause-joined c =
    are_joined c.args.text.now c.args.phases.now c.args.order.now c.in_ok-program.program c.in_ok-program.ensures.program c.in-Ok-deal_all.ensures.all

pub returns-clause-why : goal.returns-clause-why
returns-clause-why c =
    is_not_joined c.args.text.now c.args.phases.now c.args.order.now c.in_ok-program.program c.in-Err.why c.in_ok-program.ensures.program c.in-Err.ensures.why
