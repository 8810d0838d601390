use Rattle.std.proofs.Common.{refl}
use Rattle.spmd_text.proofs.LeftOut.{heading_line_as}
use Rattle.spmd_text.proofs.Parts.{reads_as, reads_then}
use Rattle.spmd_text.proofs.lines.heading_line.Goals as goal

pub returns : goal.returns
returns c =
    reads_as (heading_line_as c.args.parser.now) (reads_then (λ y. refl) (λ y here rest may e ends. refl) (c.expect.ensures.reads refl) c.end_line.ensures)
