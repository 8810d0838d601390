use Rattle.std.proofs.Common.{◌++◌, List, ℕ, map, ap, ◌∙◌}
use Rattle.std.specs.List.{flat_map}
use Rattle.prooflog.specs.Steps.{step_line, written}
use Rattle.deciding.proofs.Written.{text_written}
use Rattle.deciding.proofs.schedule.schedule_text.Goals as goal

pub returns : goal.returns
returns c =
    text_written c.args.steps.now c.put_steps.new.out.items
    (c.in_ok-put_steps.ensures ∙ ap (λ (out : List ℕ). out ++ flat_map step_line (map written c.args.steps.now)) (c.in_ok-extend_from_slice.ensures.items ∙ ap (λ (out : List ℕ). out ++ _) c.new-out.ensures.items))
