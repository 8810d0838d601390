use Rattle.std.proofs.Common.{subst, sym}
use Rattle.std.specs.Option.{IfNone, IfSome}
use Rattle.callorder.specs.Programs.{MpiProgram}
use Rattle.semantics.specs.Machine.{IsStuckRun}
use Rattle.prover.specs.parts.Searches.{HasRunThatFinishes}
use Rattle.prover.proofs.proving.walk.Goals as goal

pub returns-in-Ok-Some-clause-some : goal.returns-in-Ok-Some-clause-some
returns-in-Ok-Some-clause-some g c = λ text is.
    let p = c.args.program.now in
    let stuck : IsStuckRun p c.in-Ok-Some.steps.items =
    subst (λ (q : MpiProgram). IsStuckRun q c.in-Ok-Some.steps.items) c.deref.ensures
    (subst (λ o. IfSome o (λ steps. IsStuckRun c.deref.result.now steps.items)) c.in-Ok-Some.field-0-is c.in-Ok-Some.ensures.stuck)
    in
    c.told_schedule.ensures.answer p text (subst (IsStuckRun p) (sym c.schedule_of_run-schedule.ensures) stuck) is

pub returns-in-Ok-None-clause-none : goal.returns-in-Ok-None-clause-none
returns-in-Ok-None-clause-none g c =
    subst HasRunThatFinishes c.deref.ensures (subst (λ o. IfNone o (HasRunThatFinishes c.deref.result.now)) c.in-Ok-None.field-0-is c.in-Ok-None.ensures.none)
