use Rattle.std.proofs.Common.{◌≡◌, ℕ, Bool, true, List, Result, Ok, Err, IfOk, sym, subst}
use Rattle.std.specs.Global.{Vec}
use Rattle.std.specs.declared.alloc.AllocError.{AllocError}
use Rattle.calltext.specs.Readable.{IsText}
use Rattle.calltext.specs.Grammar.{ProgramText}
use Rattle.callorder.specs.Programs.{MpiProgram}
use Rattle.semantics.specs.declared.state.Step.{Step}
use Rattle.charts.specs.Lining.{lined_run}
use Rattle.reports.specs.Telling.{TellsRun}
use Rattle.reports.proofs.steps.text_of.Goals as goal

told_lined : (r : Result (Vec ℕ) AllocError) (lines : Bool) (text : List ℕ) (source : ProgramText) (p : MpiProgram) (steps : List Step) → lines ≡ true → IsText text source
    → IfOk r (λ told. told.items ≡ lined_run text source p steps) → IfOk r (λ told. TellsRun lines text p steps told.items)
told_lined (Ok told) lines text source p steps e says is = subst (λ (b : Bool). TellsRun b text p steps told.items) (sym e) (source, says, is)
told_lined (Err fault) lines text source p steps e says is = is

pub returns-then-lines : goal.returns-then-lines
returns-then-lines c =
    let r = c.lined_steps.result in
    let text = c.args.text.now in
    let run = c.args.run.now in
    told_lined r c.args.lines text run.source run.program run.schedule c.if-lines.true c.requires.says
    (subst (λ (source : ProgramText). IfOk r (λ told. told.items ≡ lined_run text source run.program run.schedule)) c.deref.ensures
    (subst (λ (p : MpiProgram). IfOk r (λ told. told.items ≡ lined_run text c.deref.result.now p run.schedule)) c.deref-then-lines.ensures
    (subst (λ (steps : List Step). IfOk r (λ told. told.items ≡ lined_run text c.deref.result.now c.deref-then-lines.result.now steps)) c.steps-steps.ensures.same c.lined_steps.ensures)))
