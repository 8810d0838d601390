-- The text draws what the checker handed out.
use Rattle.std.proofs.Common.{IfOk, List, subst, sym}
use Rattle.callorder.specs.Resolving.{IsTextOfWithin}
use Rattle.calltext.specs.Grammar.{ProgramText, long}
use Rattle.callorder.specs.Programs.{MpiProgram}
use Rattle.semantics.specs.declared.state.Step.{Step}
use Rattle.reports.specs.Explanations.{IsDrawnFrom}
use Rattle.reports.proofs.Programs.{long_text}
use Rattle.reports.proofs.explained.deadlock_text.Goals as goal

pub run_text-requires-clause-text : goal.run_text-requires-clause-text
run_text-requires-clause-text g c κs within =
    subst (IsTextOfWithin long c.args.text.now) (sym c.deref-program.ensures) (long_text c.args.text.now c.args.run.now.program c.requires.program)

pub returns : goal.returns
returns g c =
    let r = c.run_text.result in
    let form = c.args.form in
    let text = c.args.text.now in
    let run = c.args.run.now in
    subst (λ (source : ProgramText). IfOk r (λ told. IsDrawnFrom form text source run.program run.schedule told.items)) c.deref.ensures
    (subst (λ (p : MpiProgram). IfOk r (λ told. IsDrawnFrom form text c.deref.result.now p run.schedule told.items)) c.deref-program.ensures
    (subst (λ (steps : List Step). IfOk r (λ told. IsDrawnFrom form text c.deref.result.now c.deref-program.result.now steps told.items)) c.steps-steps.ensures.same c.run_text.ensures))
