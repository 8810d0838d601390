use Rattle.spmd_text.specs.parts.Parts.{value_part}
use Rattle.spmd_text.proofs.NoStar.{value_not_star}
use Rattle.spmd_text.proofs.Parts.{keeps_of, on_flag, read_behind_refusal}
use Rattle.spmd_text.proofs.calls.destination.Goals as goal

pub returns : goal.returns
returns c =
    let refused = c.refuse_star.ensures in
    read_behind_refusal (keeps_of refused.goes) refused.sound (λ e rest f. refused.other (value_not_star e c.args.parser.now.rest.now rest f))
    (on_flag value_part (keeps_of refused.goes) c.expression_at.ensures)
