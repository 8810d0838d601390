-- Each stage is told of the program that was read, and of the run that was made.
use Rattle.std.proofs.Common.{◌∙◌, ap, length, subst, sym}
use Rattle.deciding.specs.Stages.{TellsStages}
use Rattle.deciding.specs.declared.stages.Stage.TheVariants as stages
use Rattle.deciding.proofs.Staged.{one_told, two_told}
use Rattle.deciding.proofs.stages.run_telling.Goals as goal
use Rattle.deciding.proofs.stages.run_telling.Goals.{then-is_told, else-is_told}

pub returns-in_default-clause-told : goal.returns-in_default-clause-told
returns-in_default-clause-told g c =
    one_told c.args.text.now c.in_ok-program.program (stages.Read c.ranks-ranks.result (length c.calls-calls.result.now)) _ _ c.in_ok-program.ensures.program
    (c.ranks-ranks.ensures.value, ap length c.calls-calls.ensures.value) c.tell_stage-is_told.ensures.told

pub returns-clause-told : goal.returns-clause-told
returns-clause-told g c =
    let p = c.in_ok-program.program in
    let stage = stages.Read c.ranks-ranks.result (length c.calls-calls.result.now) in
    let old = g.E.Write.contents c.args.err.now in
    elim c.if-is_told.branch [
      | then-is_told w ↦
          subst (λ err. TellsStages c.args.text.now old (g.E.Write.contents err)) (sym w.err-is)
          (two_told c.args.text.now p stage c.in-Ok.steps.items w.len-steps.result old (g.E.Write.contents c.tell_stage-is_told.new.err) _ c.in_ok-program.ensures.program
          (c.ranks-ranks.ensures.value, ap length c.calls-calls.ensures.value) c.in-Ok.ensures.run (w.len-steps.ensures ∙ c.in-Ok.steps.ok.0)
          (c.tell_stage-is_told.ensures.whole w.if-is_told.true) w.tell_stage.ensures.told)
      | else-is_told w ↦
          subst (λ err. TellsStages c.args.text.now old (g.E.Write.contents err)) (sym w.err-is)
          (one_told c.args.text.now p stage old _ c.in_ok-program.ensures.program (c.ranks-ranks.ensures.value, ap length c.calls-calls.ensures.value)
          c.tell_stage-is_told.ensures.told)
    ]
