use Rattle.std.proofs.Common.{refl}
use Rattle.spmd_text.specs.declared.piece.Piece.TheVariants as piece
use Rattle.spmd_text.specs.parts.Parts.{optional_part, piece_part, value_part}
use Rattle.spmd_text.proofs.Parts.{none_read, on_flag, reads_as, reads_then}
use Rattle.spmd_text.proofs.Following.{never_taken, optional_as, value_behind}
use Rattle.spmd_text.proofs.Strict.{value_strict}
use Rattle.spmd_text.proofs.calls.optional.Goals as goal

pub returns-then-not-take : goal.returns-then-not-take
returns-then-not-take c =
    none_read {part = optional_part c.args.parser.now.in_parameter c.args.word} (λ z. refl) tt tt (c.if-not-take.ensures.left refl)
    (λ e rest sound may f.
    let b = value_behind (piece.Word c.args.word) e c.args.parser.now.rest.now rest f in
    never_taken (c.if-not-take.ensures.taken b.0 sound b.1).0)

pub returns : goal.returns
returns c =
    let first = c.if-not-take.ensures.reads refl refl in
    reads_as (optional_as c.args.parser.now c.args.word c.expression_at.result (λ sound. c.if-not-take.ensures.there refl sound refl))
    (reads_then {one = piece_part (piece.Word c.args.word)} {other = value_part c.args.parser.now.in_parameter} value_strict (λ y here rest may e ends. refl) first
    (on_flag value_part first.goes c.expression_at.ensures))
