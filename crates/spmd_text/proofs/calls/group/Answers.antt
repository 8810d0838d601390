use Rattle.std.proofs.Common.{refl}
use Rattle.spmd_text.specs.declared.piece.Piece.TheVariants as piece
use Rattle.spmd_text.specs.declared.piece.Word.TheVariants as word
use Rattle.spmd_text.specs.parts.Parts.{group_part, value_part}
use Rattle.spmd_text.proofs.Following.{never_taken, to_stops, word_stops}
use Rattle.spmd_text.proofs.Optional.{group_as, group_opens, step_part}
use Rattle.spmd_text.proofs.Parts.{none_read, on_flag, reads_as, reads_then}
use Rattle.spmd_text.proofs.Strict.{optional_strict, value_strict}
use Rattle.spmd_text.proofs.calls.group.Goals as goal

pub returns-then-not-take : goal.returns-then-not-take
returns-then-not-take c =
    none_read {part = group_part c.args.parser.now.in_parameter} (λ z. refl) tt tt (c.if-not-take.ensures.left refl)
    (λ g rest sound may f. let b = group_opens g c.args.parser.now.rest.now rest f in never_taken (c.if-not-take.ensures.taken b.0 sound b.1).0)

pub returns : goal.returns
returns c =
    let one = c.if-not-take.ensures.reads refl refl in
    let two = reads_then value_strict (λ y here rest may e ends. refl) one (on_flag value_part one.goes c.expression_at-first.ensures) in
    let three = reads_then (λ y. refl) (λ y here rest may e ends. to_stops here rest e) two (c.expect.ensures.reads refl) in
    let four = reads_then value_strict (λ y here rest may e ends. refl) three (on_flag value_part three.goes c.expression_at-last.ensures) in
    let five = reads_then (optional_strict (piece.Word word.Step)) (λ y here rest may e ends. word_stops word.Step refl y here rest e ends) four (on_flag step_part four.goes c.optional-step.ensures) in
    reads_as (group_as c.args.parser.now c.expression_at-first.result c.expression_at-last.result c.optional-step.result (λ sound. c.if-not-take.ensures.there refl sound refl)) five
