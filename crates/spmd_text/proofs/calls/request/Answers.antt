use Rattle.std.proofs.Common.{refl}
use Rattle.spmd_text.proofs.Following.{comma_unindexed}
use Rattle.spmd_text.proofs.LabelForms.{request_as}
use Rattle.spmd_text.proofs.Parts.{reads_as, reads_then}
use Rattle.spmd_text.proofs.calls.request.Goals as goal

pub returns : goal.returns
returns c =
    reads_as (request_as c.args.parser.now c.args.started c.label-form.result c.if-not-started.false)
    (reads_then (λ y. refl) (λ y here rest may e ends. comma_unindexed here rest e) c.label-form.ensures c.comma.ensures.reads)
