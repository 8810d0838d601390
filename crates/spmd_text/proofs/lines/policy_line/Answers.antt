use Rattle.std.proofs.Common.{refl, sym}
use Rattle.spmd_text.proofs.LeftOut.{no_policy, policy_as}
use Rattle.spmd_text.proofs.Parts.{reads_as, reads_then}
use Rattle.spmd_text.proofs.lines.policy_line.Goals as goal

pub returns-then-not-take : goal.returns-then-not-take
returns-then-not-take c = no_policy (c.if-not-take.ensures.left refl) (sym c.if-not-take.ensures.found)

pub returns : goal.returns
returns c =
    let one = reads_then (λ y. refl) (λ y here rest may e ends. refl) (c.if-not-take.ensures.reads refl refl) c.policy-policy.ensures in
    reads_as (policy_as c.args.parser.now c.policy-policy.result (λ sound. c.if-not-take.ensures.there refl sound refl))
    (reads_then (λ y. refl) (λ y here rest may e ends. refl) one c.end_line.ensures)
