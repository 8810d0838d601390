-- The text tells the numbers of the program and the refutation that the texts are of.
use Rattle.std.proofs.Common.{subst}
use Rattle.callorder.specs.Programs.{MpiProgram}
use Rattle.callorder.specs.Resolving.{IsTextOf}
use Rattle.checker.proofs.Reasons.{refuted_refute}
use Rattle.reports.proofs.explained.no_deadlock.Goals as goal

pub returns-in-Ok : goal.returns-in-Ok
returns-in-Ok c =
    let are = c.requires.0 in
    let refuted = c.args.refuted.now in (
      refuted_refute c.args.program.now c.args.evidence.now refuted.formula refuted.refutation are,
      (refuted.program, refuted.refutation, subst (IsTextOf c.args.program.now) c.requires.1 are.text, are.refutation, c.in-Ok.ensures),
    )
