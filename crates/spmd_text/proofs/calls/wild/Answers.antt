use Rattle.std.proofs.Common.{refl}
use Rattle.spmd_text.proofs.Optional.{star_as}
use Rattle.spmd_text.proofs.Parts.{reads_as}
use Rattle.spmd_text.proofs.calls.wild.Goals as goal

pub returns-then-take : goal.returns-then-take
returns-then-take c =
    reads_as (star_as c.args.parser.now (λ sound. c.if-take.ensures.there refl sound refl)) (c.if-take.ensures.reads refl refl)
