use Rattle.std.proofs.Common.{ℕ, arith, List, Some, ap, length, sym, subst, ◌∙◌}
use Rattle.spmd_text.specs.declared.parser.Parser.{Parser}
use Rattle.spmd_text.specs.declared.piece.Token.{Token}
use Rattle.spmd_text.specs.declared.piece.Word.TheVariants as word
use Rattle.spmd_text.specs.declared.piece.Piece.TheVariants as piece
use Rattle.spmd_text.specs.Spelling.{piece_begins}
use Rattle.spmd_text.specs.parts.Statements.{KeptStatement, held, held_all, put_back}
use Rattle.spmd_text.specs.Statements.{line_of_first_piece}
use Rattle.spmd_text.proofs.BlockForms.{put_back_is}
use Rattle.spmd_text.proofs.LeftOut.{next_word_shorter, not_next}
use Rattle.spmd_text.proofs.Made.{made_goes, made_sound}
use Rattle.spmd_text.proofs.Meeting.{sound_by}
use Rattle.spmd_text.proofs.Stuck.{tells_made}
use Rattle.spmd_text.proofs.TextLines.{parameter_lines_begun, parameter_lines_more}
use Rattle.spmd_text.proofs.ParameterRows.{ParametersSoFar, next_here, parameters_begun, parameters_ended, parameters_more, reads_one}
use Rattle.spmd_text.proofs.Parts.{keeps_of}
use Rattle.spmd_text.proofs.blocks.parameters.Goals as goal

pub loop-parser-init : goal.loop-parser-init
loop-parser-init c unset = (
  subst (λ (list : List KeptStatement). ParametersSoFar c.args.parser.now c.args.parser.now (held_all list)) (sym c.new-list.ensures.items) (parameters_begun c.args.parser.now),
  parameter_lines_begun c.args.parser.now c.args.at.now,
)

pub loop-parser-preserved : goal.loop-parser-preserved
loop-parser-preserved c unset =
    let s : Parser = c.loop-parser.parser in
    let so_far = (c.loop-parser.invariant unset).0 in
    let is = sym c.is.ensures ∙ c.loop-parser-test.true in
    let goes = keeps_of c.step.ensures.goes in
    let item = reads_one goes (λ sound. c.step.ensures.fault ∙ sound)
    (λ sound.
    ap (λ (n : ℕ). put_back n word.Param (Some c.step.new.self.rest.now)) c.line-line.ensures
    ∙ (ap (λ (z : List Token). put_back (line_of_first_piece s.rest.now) word.Param (Some z)) c.step.ensures.left
    ∙ put_back_is word.Param s.rest.now (next_here s.fault s.rest.now is sound)))
    (c.parameter-statement.ensures.reads (goes.in_parameter ∙ (so_far.goes.in_parameter ∙ unset))) in (
      parameters_more (held c.parameter-statement.result) so_far is item c.add.ensures,
      parameter_lines_more (held c.parameter-statement.result) so_far (c.loop-parser.invariant unset).1 is item c.begin_line.ensures.sound c.begin_line.ensures.stays c.add.ensures,
    )

pub loop-parser-smaller : goal.loop-parser-smaller
loop-parser-smaller c =
    let goes = made_goes c.add.ensures in
    omega (arith, goes.shorter, c.parameter-statement.ensures.shorter, ap length c.step.ensures.left, next_word_shorter word.Param c.loop-parser.parser.fault c.loop-parser.parser.rest.now (sym c.is.ensures ∙ c.loop-parser-test.true))

pub returns-clause-reads : goal.returns-clause-reads
returns-clause-reads c unset =
    parameters_ended (held c.whole.result) (c.loop-parser.invariant unset).0 (sym c.is.ensures ∙ c.loop-parser-test.false) c.whole.ensures

pub returns-clause-stays : goal.returns-clause-stays
returns-clause-stays c unset = (c.loop-parser.invariant unset).1.stays

pub returns-clause-line : goal.returns-clause-line
returns-clause-line c block depth early unset = tells_made c.args.parser.now ((c.loop-parser.invariant unset).1.tells block depth early) c.whole.ensures

pub returns-clause-ended : goal.returns-clause-ended
returns-clause-ended c sound =
    let m = made_sound c.whole.ensures sound in
    ap (λ (p : Parser). piece_begins (piece.Word word.Param) (Some p.rest.now)) m.0
    ∙ not_next word.Param c.loop-parser.parser.fault c.loop-parser.parser.rest.now (sym c.is.ensures ∙ c.loop-parser-test.false) (sound_by c.loop-parser.parser c.whole.new.parser (made_goes c.whole.ensures).sticks sound)
