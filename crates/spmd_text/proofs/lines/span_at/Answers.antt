use Rattle.std.proofs.Common.{refl}
use Rattle.spmd_text.specs.parts.Parts.{value_part}
use Rattle.spmd_text.proofs.CallForms.{at_line_end}
use Rattle.spmd_text.proofs.Following.{to_stops}
use Rattle.spmd_text.proofs.LeftOut.{gap_stops, gap_strict, span_as}
use Rattle.spmd_text.proofs.Parts.{on_flag, read_ended, reads_as, reads_then}
use Rattle.spmd_text.proofs.Strict.{value_strict}
use Rattle.spmd_text.proofs.lines.span_at.Goals as goal

pub returns : goal.returns
returns c =
    let one = c.expression_at-first.ensures in
    let two = reads_then (λ y. refl) (λ y here rest may e ends. to_stops here rest e) one (c.expect.ensures.reads refl) in
    let three = reads_then value_strict (λ y here rest may e ends. refl) two (on_flag value_part two.goes c.expression_at-last.ensures) in
    let four = reads_then gap_strict (λ y here rest may e ends. gap_stops y here rest e ends) three (read_ended at_line_end (λ rest e. refl) c.step-step.ensures) in
    reads_as (span_as c.args.parser.now c.expression_at-first.result c.expression_at-last.result c.step-step.result) four
