use Rattle.std.proofs.Common.{refl}
use Rattle.spmd_text.proofs.Following.{line_end_labels}
use Rattle.spmd_text.proofs.Made.{reads_kept}
use Rattle.spmd_text.proofs.Parts.{reads_as, reads_then}
use Rattle.spmd_text.proofs.StatementForms.{wait_all_as}
use Rattle.spmd_text.proofs.calls.wait_all.Goals as goal

pub returns : goal.returns
returns c depth =
    reads_kept
    (reads_as (wait_all_as c.args.parser.now depth c.args.line c.labels-requests.result)
    (reads_then (λ y. refl) (λ y here rest may e ends. line_end_labels here rest e) c.labels-requests.ensures c.end_line.ensures)) c.keep.ensures
