use Rattle.std.proofs.Common.{arith, true, refl, ◌∙◌}
use Rattle.spmd_text.specs.declared.piece.Piece.TheVariants as piece
use Rattle.spmd_text.specs.parts.Parts.{piece_part, value_part}
use Rattle.spmd_text.specs.parts.Programs.{otherwise_part}
use Rattle.spmd_text.proofs.Following.{never_taken, value_behind}
use Rattle.spmd_text.proofs.ParameterForms.{otherwise_as, reads_flagged}
use Rattle.spmd_text.proofs.Parts.{none_read, reads_as, reads_then}
use Rattle.spmd_text.proofs.Strict.{value_strict}
use Rattle.spmd_text.proofs.lines.otherwise.Goals as goal

pub returns-then-not-take-clause-reads : goal.returns-then-not-take-clause-reads
returns-then-not-take-clause-reads c unset =
    none_read {part = otherwise_part} (λ z. refl) tt tt (c.if-not-take.ensures.left refl)
    (λ e rest sound may f.
    let b = value_behind piece.Equals e c.args.parser.now.rest.now rest f in
    never_taken (c.if-not-take.ensures.taken b.0 sound b.1).0)

pub returns-clause-shorter : goal.returns-clause-shorter
returns-clause-shorter c = omega (arith, c.take.ensures.goes.shorter, c.expression_at-value.ensures.goes.shorter)

pub returns-clause-reads : goal.returns-clause-reads
returns-clause-reads c unset =
    let first = c.if-not-take.ensures.reads refl refl in
    reads_as (otherwise_as c.args.parser.now c.expression_at-value.result (λ sound. c.if-not-take.ensures.there refl sound refl))
    (reads_then {one = piece_part piece.Equals} {other = value_part true} value_strict (λ y here rest may e ends. refl) first
    (reads_flagged (first.goes.in_parameter ∙ unset) c.expression_at-value.ensures))
