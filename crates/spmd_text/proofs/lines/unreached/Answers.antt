use Rattle.spmd_text.proofs.Made.{reads_kept}
use Rattle.spmd_text.proofs.Parts.{reads_as}
use Rattle.spmd_text.proofs.StatementForms.{unreached_as}
use Rattle.spmd_text.proofs.lines.unreached.Goals as goal

pub returns : goal.returns
returns c depth = reads_kept (reads_as (unreached_as c.args.parser.now depth c.args.line) c.end_line.ensures) c.keep.ensures
