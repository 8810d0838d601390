use Rattle.std.proofs.Common.{refl, sym}
use Rattle.spmd_text.proofs.LeftOut.{gap_as, no_gap}
use Rattle.spmd_text.proofs.Parts.{reads_as, reads_then}
use Rattle.spmd_text.proofs.lines.step.Goals as goal

pub returns-then-not-take : goal.returns-then-not-take
returns-then-not-take c = no_gap (c.if-not-take.ensures.left refl) (sym c.if-not-take.ensures.found)

pub returns : goal.returns
returns c =
    reads_as (gap_as c.args.parser.now c.step_number.result (λ sound. c.if-not-take.ensures.there refl sound refl))
    (reads_then (λ y. refl) (λ y here rest may e ends. refl) (c.if-not-take.ensures.reads refl refl) c.step_number.ensures)
