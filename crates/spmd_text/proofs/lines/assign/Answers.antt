use Rattle.std.proofs.Common.{refl}
use Rattle.spmd_text.specs.parts.Parts.{value_part}
use Rattle.spmd_text.proofs.Following.{line_end_stops}
use Rattle.spmd_text.proofs.Made.{reads_kept}
use Rattle.spmd_text.proofs.Parts.{on_flag, reads_as, reads_then}
use Rattle.spmd_text.proofs.StatementForms.{assign_as}
use Rattle.spmd_text.proofs.Strict.{value_strict}
use Rattle.spmd_text.proofs.lines.assign.Goals as goal

pub returns : goal.returns
returns c depth =
    let one = c.variable-name.ensures in
    let two = reads_then value_strict (λ y here rest may e ends. refl) one (on_flag value_part one.goes c.expression_at-value.ensures) in
    let three = reads_then (λ y. refl) (λ y here rest may e ends. line_end_stops here rest e) two c.end_line.ensures in
    reads_kept (reads_as (assign_as c.args.parser.now depth c.args.line c.variable-name.result c.expression_at-value.result) three) c.keep.ensures
