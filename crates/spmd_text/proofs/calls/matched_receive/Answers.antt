use Rattle.std.proofs.Common.{refl}
use Rattle.spmd_text.specs.parts.Parts.{label_part}
use Rattle.spmd_text.proofs.CallForms.{matched_receive_as}
use Rattle.spmd_text.proofs.Parts.{on_names, reads_as, reads_then}
use Rattle.spmd_text.proofs.Strict.{label_strict}
use Rattle.spmd_text.proofs.calls.matched_receive.Goals as goal

pub returns : goal.returns
returns c =
    let one = c.request-request.ensures in
    let two = reads_then label_strict (λ y here rest may e ends. refl) one (on_names label_part one.goes c.label-handle.ensures) in
    reads_as (matched_receive_as c.args.parser.now c.args.started c.request-request.result c.label-handle.result) two
