use Rattle.std.proofs.Common.{refl}
use Rattle.spmd_text.specs.parts.Parts.{index_part, value_part}
use Rattle.spmd_text.proofs.Following.{closing_stops, never_taken}
use Rattle.spmd_text.proofs.Optional.{index_as, index_opens}
use Rattle.spmd_text.proofs.Parts.{none_read, on_flag, reads_as, reads_then}
use Rattle.spmd_text.proofs.Strict.{value_strict}
use Rattle.spmd_text.proofs.calls.index.Goals as goal

pub returns-then-not-take : goal.returns-then-not-take
returns-then-not-take c =
    none_read {part = index_part c.args.parser.now.in_parameter} (λ z. refl) tt refl (c.if-not-take.ensures.left refl)
    (λ e rest sound may f. let b = index_opens e c.args.parser.now.rest.now rest f in never_taken (c.if-not-take.ensures.taken b.0 sound b.1).0)

pub returns : goal.returns
returns c =
    let one = c.if-not-take.ensures.reads refl refl in
    let two = reads_then value_strict (λ y here rest may e ends. refl) one (on_flag value_part one.goes c.expression_at-index.ensures) in
    let three = reads_then (λ y. refl) (λ y here rest may e ends. closing_stops here rest e) two (c.expect.ensures.reads refl) in
    reads_as (index_as c.args.parser.now c.expression_at-index.result (λ sound. c.if-not-take.ensures.there refl sound refl)) three
