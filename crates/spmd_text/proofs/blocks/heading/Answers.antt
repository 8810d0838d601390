use Rattle.std.proofs.Common.{refl, ◌∙◌}
use Rattle.spmd_text.proofs.LeftOut.{heading_as, policy_line_strict}
use Rattle.spmd_text.proofs.Parts.{reads_as, reads_then}
use Rattle.spmd_text.proofs.TextLines.{heading_tells}
use Rattle.spmd_text.proofs.blocks.heading.Goals as goal

pub returns-clause-reads : goal.returns-clause-reads
returns-clause-reads c =
    reads_as (heading_as c.args.parser.now c.policy_line.result)
    (reads_then policy_line_strict (λ y here rest may e ends. refl) c.heading_line.ensures c.policy_line.ensures)

pub returns-clause-stays : goal.returns-clause-stays
returns-clause-stays c why e = c.begin_line-2.ensures.stays why (c.heading_line.ensures.goes.sticks why e) ∙ c.begin_line.ensures.stays why e

pub returns-clause-line : goal.returns-clause-line
returns-clause-line c depth =
    heading_tells depth c.heading_line.ensures c.policy_line.ensures c.begin_line.ensures.sound c.begin_line-2.ensures.sound c.begin_line-2.ensures.stays
