use Rattle.spmd_text.proofs.CallForms.{wait_as}
use Rattle.spmd_text.proofs.Parts.{reads_as}
use Rattle.spmd_text.proofs.calls.wait.Goals as goal

pub returns : goal.returns
returns c =
    reads_as (wait_as c.args.parser.now c.label-request.result) c.label-request.ensures
