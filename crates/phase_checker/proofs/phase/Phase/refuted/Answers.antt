use Rattle.phase_checker.proofs.Wholes.{never_within_long}
use Rattle.phase_checker.proofs.phase.Phase.refuted.Goals as goal

pub of-requires : goal.of-requires
of-requires c = never_within_long c.args.text.now c.in-Ok.program c.requires c.in-Ok.ensures.program
