use Rattle.std.proofs.Common.{◌++◌, List, ℕ, map, ap, ◌∙◌}
use Rattle.std.specs.List.{flat_map}
use Rattle.prooflog.specs.Steps.{step_line, written}
use Rattle.prooflog.proofs.Schedules.{schedule_text}
use Rattle.prooflog.proofs.writer.write_schedule.Goals as goal

pub returns : goal.returns
returns c =
    schedule_text c.args.schedule.now c.put_steps.new.out.items c.steps.ensures.limits
    (c.in_ok-put_steps.ensures ∙ ap (λ xs. c.extend_from_slice.new.self.items ++ flat_map step_line (map written xs)) c.steps.ensures.same ∙ ap (λ (out : List ℕ). out ++ flat_map step_line (map written c.args.schedule.now)) (c.in_ok-extend_from_slice.ensures.items ∙ ap (λ (out : List ℕ). out ++ _) c.new-out.ensures.items))
