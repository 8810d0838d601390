use Rattle.std.proofs.Common.{ℕ, ◌-◌, arith, length, List, Some, false, ◌≡◌, ◌∷◌, refl, ap, sym, subst, ◌∙◌, inr}
use Rattle.spmd_text.specs.declared.parser.Parser.{Parser}
use Rattle.spmd_text.specs.declared.piece.Token.{Token}
use Rattle.spmd_text.specs.declared.piece.Word.{Word}
use Rattle.spmd_text.specs.declared.piece.Word.TheVariants as word
use Rattle.spmd_text.specs.parts.Parts.{HasRead}
use Rattle.spmd_text.specs.declared.piece.Piece.TheVariants as piece
use Rattle.spmd_text.specs.parts.Lines as lines
use Rattle.spmd_text.specs.parts.Lines.{Level, TellsLine, from_word, level_at}
use Rattle.spmd_text.specs.parts.Statements.{KeptStatement, MayStatements, RowSoFar, begun_part, held, held_all, is_end, put_back, scope_of, span_part, statements_part, tail_part, keyword_of}
use Rattle.spmd_text.specs.Statements.{line_of_first_piece, within_loop}
use Rattle.spmd_text.proofs.BlockForms.{body_read, elif_as, else_as, end_behind, first_simple, line_end_condition, loop_head_parts, name_read, next_begins, next_shorter, no_memory, otherwise_back, otherwise_so, put_back_is, reads_begun, reads_then_on, repeat_back, repeat_none, repeat_so, span_strict, tail_none, when_back, when_none, when_so}
use Rattle.spmd_text.proofs.BlockLines.{branch_tells, else_shut, else_then_tells, head_deep_tells, kept_ends, lines_begun, lines_ended, lines_more, loop_deep_tells, loop_tells, made_ends, none_ends, simple_tells, tells_begun, when_ends}
use Rattle.spmd_text.proofs.BlockWords.{end_ends, end_strict, statement_strict, tail_ends}
use Rattle.spmd_text.proofs.Flat.{row_begun, row_ended, row_more, word_of_is}
use Rattle.spmd_text.proofs.LeftOut.{not_next}
use Rattle.spmd_text.specs.parts.Reading.{next}
use Rattle.spmd_text.proofs.Following.{line_end_begins}
use Rattle.spmd_text.proofs.Going.{never_failed}
use Rattle.spmd_text.proofs.Made.{made_goes, made_sound, reads_kept, reads_made}
use Rattle.spmd_text.proofs.Parts.{keeps_of, keeps_on, on_flag, reads_as, reads_then, sound_before}
use Rattle.spmd_text.proofs.Stuck.{tells_made, tells_none}
use Rattle.spmd_text.proofs.Sequences.{taken_last}
use Rattle.spmd_text.proofs.Scopes.{on_scope, refused_behind}
use Rattle.spmd_text.proofs.blocks.+statements.Goals as goal

pub after_else-returns-clause-reads : goal.after_else-returns-clause-reads
after_else-returns-clause-reads t c line =
    let one = c.end_line.ensures in
    let two = reads_then statement_strict (λ y here rest may e ends. refl) one
    (on_scope (λ scope. statements_part scope c.args.depth) one.goes c.statements-inner.ensures.reads) in
    reads_made (otherwise_back c.args.parser.now c.args.depth line (held c.otherwise.result)) (otherwise_so c.args.parser.now c.args.depth line (held c.statements-inner.result) (held c.otherwise.result)) two c.otherwise.ensures

pub branch-returns-then-depth-eq0-clause-reads : goal.branch-returns-then-depth-eq0-clause-reads
branch-returns-then-depth-eq0-clause-reads t c =
    refused_behind _ c.condition_at-condition.ensures.goes c.refuse.ensures (λ x may. when_none c.args.parser.now c.args.depth c.args.line c.args.chained x c.if-depth-eq0.true may)

pub branch-returns-clause-reads : goal.branch-returns-clause-reads
branch-returns-clause-reads t c =
    let old : Parser = c.args.parser.now in
    let one = c.condition_at-condition.ensures in
    let two = reads_then (λ y. refl) (λ y here rest may e ends. line_end_condition here rest e) one c.end_line.ensures in
    let three = reads_then statement_strict (λ y here rest may e ends. refl) two (on_scope (λ scope. statements_part scope (c.args.depth - 1)) two.goes c.statements-yes.ensures.reads) in
    let four = reads_then statement_strict (λ y here rest may e ends. tail_ends y here rest may.tail e ends) three (on_scope (λ scope. tail_part scope (c.args.depth - 1)) three.goes c.tail-no.ensures.reads) in
    let five = reads_then (λ y. end_strict c.args.chained) (λ y here rest may e ends. end_behind c.args.chained here rest e ends) four c.end_branch.ensures.reads in
    reads_made (when_back old c.args.depth c.args.line c.args.chained)
    (when_so old c.args.depth c.args.line c.args.chained c.condition_at-condition.result (held c.statements-yes.result) (held c.tail-no.result) (held c.when.result) (omega (arith, c.if-depth-eq0.false))) five c.when.ensures

pub for_loop-returns-clause-reads : goal.for_loop-returns-clause-reads
for_loop-returns-clause-reads t c =
    let old : Parser = c.args.parser.now in
    let one = c.variable-name.ensures in
    let two = reads_then span_strict (λ y here rest may e ends. refl) one (on_flag span_part one.goes c.span_at-span.ensures) in
    let three = reads_then (λ y. refl) (λ y here rest may e ends. line_end_begins here rest e) two c.end_line.ensures in
    let body = on_scope (λ scope. statements_part (within_loop c.variable-name.result scope) (c.args.depth - 1)) three.goes c.body_of-body.ensures.reads in
    let four = reads_then_on {one = loop_head_parts (scope_of old)} (statements_part (scope_of old) (c.args.depth - 1)) (λ k. MayStatements (within_loop k (scope_of old)) (c.args.depth - 1)) name_read statement_strict (λ y here rest e ends. refl) (λ x same. sym same.0.0) three body in
    let five = reads_then (λ y. refl) (λ y here rest may e ends. end_ends here (end_behind false here rest e ends)) four c.end_block.ensures.reads in
    reads_made (repeat_back old c.args.depth c.args.line)
    (repeat_so old c.args.depth c.args.line c.variable-name.result c.span_at-span.result (held c.body_of-body.result) (held c.repeat.result) (omega (arith, c.if-depth-eq0.false))) five c.repeat.ensures

pub for_loop-returns-then-depth-eq0-clause-reads : goal.for_loop-returns-then-depth-eq0-clause-reads
for_loop-returns-then-depth-eq0-clause-reads t c =
    refused_behind _ (keeps_on c.variable-name.ensures.goes c.span_at-span.ensures.goes) c.refuse.ensures (λ x may. repeat_none c.args.parser.now c.args.depth x c.if-depth-eq0.true may)

pub rest_of_statement-returns-in-For-clause-reads : goal.rest_of_statement-returns-in-For-clause-reads
rest_of_statement-returns-in-For-clause-reads t c first =
    subst (λ (w : Word). HasRead (begun_part (scope_of c.args.parser.now) c.args.depth c.args.line w) c.args.parser.now c.for_loop.new.parser (held c.for_loop.result)) (sym c.in-For.is) c.for_loop.ensures.reads

pub rest_of_statement-returns-in-If-clause-reads : goal.rest_of_statement-returns-in-If-clause-reads
rest_of_statement-returns-in-If-clause-reads t c first =
    subst (λ (w : Word). HasRead (begun_part (scope_of c.args.parser.now) c.args.depth c.args.line w) c.args.parser.now c.branch-parser.new.parser (held c.branch-parser.result)) (sym c.in-If.is) c.branch-parser.ensures.reads

pub rest_of_statement-returns-in_default-clause-reads : goal.rest_of_statement-returns-in_default-clause-reads
rest_of_statement-returns-in_default-clause-reads t c first = c.simple.ensures c.args.depth (first_simple c.args.word first c.in_default.not-For c.in_default.not-If)

pub statement-returns-clause-reads : goal.statement-returns-clause-reads
statement-returns-clause-reads t c first is =
    let old : Parser = c.args.parser.now in
    let goes = keeps_of c.step.ensures.goes in
    reads_begun goes (λ sound. c.step.ensures.fault ∙ sound)
    (λ sound.
    ap (λ (n : ℕ). put_back n c.args.word (Some c.step.new.self.rest.now)) c.line-line.ensures
    ∙ (ap (λ (z : List Token). put_back (line_of_first_piece old.rest.now) c.args.word (Some z)) c.step.ensures.left
    ∙ put_back_is c.args.word old.rest.now (next_begins c.args.word old.fault old.rest.now sound is)))
    (on_scope (λ scope. begun_part scope c.args.depth c.line-line.result c.args.word) goes (c.rest_of_statement.ensures.reads first))

pub statement-returns-clause-shorter : goal.statement-returns-clause-shorter
statement-returns-clause-shorter t c first is =
    let r = c.rest_of_statement.ensures.reads first in
    omega (arith, r.goes.shorter, ap length c.step.ensures.left, next_shorter c.args.word c.args.parser.now.fault c.args.parser.now.rest.now is)

pub inside-returns-clause-reads : goal.inside-returns-clause-reads
inside-returns-clause-reads t c = record {
  mid = c.statements-body.new.parser;
  reads = c.statements-body.ensures.reads;
  frame = refl;
  loops = λ outer name e. taken_last c.statements-body.new.parser.loops.items c.pop.new.self.items outer c.pop.result name c.pop.ensures.items (λ low. c.pop.ensures.variant.1 (omega (arith, low, c.statements-body.new.parser.loops.ok.0))) e;
}

pub body_of-returns-in-Ok-clause-reads : goal.body_of-returns-in-Ok-clause-reads
body_of-returns-in-Ok-clause-reads t c = body_read {pushed = record c.args.parser.now { loops = c.push.new.self }} c.args.name c.args.depth refl c.in-Ok.ensures.items c.inside.ensures.reads

pub body_of-returns-in-Err-clause-reads : goal.body_of-returns-in-Err-clause-reads
body_of-returns-in-Err-clause-reads t c = no_memory {pushed = record c.args.parser.now { loops = c.push.new.self }} refl c.in-Err.ensures.items c.refuse.ensures

pub tail-returns-then-take-clause-reads : goal.tail-returns-then-take-clause-reads
tail-returns-then-take-clause-reads t c =
    let old : Parser = c.args.parser.now in
    let goes = keeps_of c.take.ensures.goes in
    let passed = c.if-take.ensures.passed refl in
    reads_as (elif_as old c.args.depth (held c.branch-parser.result) (λ sound. c.if-take.ensures.there refl sound refl))
    (reads_begun goes (λ sound. passed.0 ∙ sound)
    (λ sound.
    ap (λ (n : ℕ). put_back n word.Elif (Some c.take.new.self.rest.now)) c.line-line.ensures
    ∙ (ap (λ (z : List Token). put_back (line_of_first_piece old.rest.now) word.Elif (Some z)) passed.1
    ∙ put_back_is word.Elif old.rest.now (c.if-take.ensures.there refl sound refl)))
    (on_scope (λ scope. begun_part scope c.args.depth c.line-line.result word.Elif) goes c.branch-parser.ensures.reads))

pub tail-returns-then-take-2-clause-reads : goal.tail-returns-then-take-2-clause-reads
tail-returns-then-take-2-clause-reads t c =
    let mid : Parser = c.take.new.self in
    let goes = keeps_of c.take-2.ensures.goes in
    let passed = c.if-take-2.ensures.passed refl in
    let line : ℕ = line_of_first_piece mid.rest.now in
    let read = reads_as (else_as mid c.args.depth (held c.after_else.result) (λ sound. c.if-take-2.ensures.there refl sound refl))
    (reads_begun goes (λ sound. passed.0 ∙ sound)
    (λ sound.
    ap (λ (z : List Token). put_back line word.Else (Some z)) passed.1
    ∙ put_back_is word.Else mid.rest.now (c.if-take-2.ensures.there refl sound refl))
    (on_scope (λ scope. begun_part scope c.args.depth line word.Else) goes (c.after_else.ensures.reads line))) in
    subst (λ (p : Parser). HasRead (tail_part (scope_of p) c.args.depth) p c.after_else.new.parser (held c.after_else.result)) (c.if-take.ensures.left refl) read

pub tail-returns-clause-reads : goal.tail-returns-clause-reads
tail-returns-clause-reads t c =
    reads_kept
    (tail_none (scope_of c.args.parser.now) c.args.depth (c.if-take.ensures.left refl) (c.if-take-2.ensures.left refl)
    (not_next word.Elif c.args.parser.now.fault c.args.parser.now.rest.now (sym c.if-take.ensures.found))
    (not_next word.Else c.take.new.self.fault c.take.new.self.rest.now (sym c.if-take-2.ensures.found)))
    c.keep.ensures

pub statements-loop-word-init : goal.statements-loop-word-init
statements-loop-word-init t c = record {
  row = subst (λ (list : List KeptStatement). RowSoFar c.args.parser.now c.args.parser.now c.args.depth (held_all list)) (sym c.new-list.ensures.items) (row_begun c.args.parser.now c.args.depth);
  lines = lines_begun c.args.parser.now c.args.depth c.args.at.now;
}

pub statements-loop-word-preserved : goal.statements-loop-word-preserved
statements-loop-word-preserved t c =
    let is = ap keyword_of (sym c.piece.ensures) ∙ (sym c.word_of.ensures ∙ c.in-Some.is) in
    let known = word_of_is (next c.loop-word.parser) c.in-Some.word is in
    let reads = c.statement-statement.ensures.reads known.1 known.0 in
    let so = ap keyword_of (sym known.0) ∙ is in
    record {
      row = row_more c.in-Some.word (held c.statement-statement.result) c.loop-word.invariant.row is reads c.add.ensures;
      lines = lines_more c.in-Some.word c.loop-word.invariant.lines c.loop-word.invariant.row.goes known.1 reads
          (record { stays = c.statement-statement.ensures.stays; tells = λ block outer settled. c.statement-statement.ensures.line block outer settled so known.0 }) c.add.ensures;
    }

pub statements-loop-word-smaller : goal.statements-loop-word-smaller
statements-loop-word-smaller t c =
    let is = ap keyword_of (sym c.piece.ensures) ∙ (sym c.word_of.ensures ∙ c.in-Some.is) in
    let known = word_of_is (next c.loop-word.parser) c.in-Some.word is in
    let goes = made_goes c.add.ensures in
    omega (arith, goes.shorter, c.statement-statement.ensures.shorter known.1 known.0)

pub statements-returns-clause-reads : goal.statements-returns-clause-reads
statements-returns-clause-reads t c =
    row_ended (held c.whole.result) c.loop-word.invariant.row (ap keyword_of (sym c.piece.ensures) ∙ (sym c.word_of.ensures ∙ c.in_default.is)) (keeps_of c.refuse_other.ensures.goes) c.refuse_other.ensures.sound c.refuse_other.ensures.fits c.whole.ensures

pub statements-returns-clause-stays : goal.statements-returns-clause-stays
statements-returns-clause-stays t c why e =
    c.begin_line.ensures.stays why (c.loop-word.invariant.row.goes.sticks why e) ∙ c.loop-word.invariant.lines.stays why e

pub statements-returns-clause-line : goal.statements-returns-clause-line
statements-returns-clause-line t c =
    lines_ended c.loop-word.invariant.lines (ap keyword_of (sym c.piece.ensures) ∙ (sym c.word_of.ensures ∙ c.in_default.is)) c.refuse_other.ensures.goes.sticks c.refuse_other.ensures.fits
    c.begin_line.ensures.sound c.begin_line.ensures.stays c.whole.ensures

pub statements-returns-clause-ended : goal.statements-returns-clause-ended
statements-returns-clause-ended t c =
    made_ends c.whole.ensures
    (λ sound. let kept = c.refuse_other.ensures.sound sound in ap (λ (s : Parser). is_end (next s)) kept.0 ∙ kept.1)

-- ---- the line of a fault

pub after_else-returns-clause-stays : goal.after_else-returns-clause-stays
after_else-returns-clause-stays t c why e = c.statements-inner.ensures.stays why (c.end_line.ensures.goes.sticks why e)

pub after_else-returns-clause-line : goal.after_else-returns-clause-line
after_else-returns-clause-line t c line outer told =
    tells_made c.args.parser.now
    (else_then_tells {new = c.statements-inner.new.parser} outer c.args.depth line told c.end_line.ensures c.statements-inner.ensures.reads.goes.sticks
    (record { stays = c.statements-inner.ensures.stays; tells = c.statements-inner.ensures.line })) c.otherwise.ensures

pub after_else-returns-clause-ended : goal.after_else-returns-clause-ended
after_else-returns-clause-ended t c = made_ends c.otherwise.ensures c.statements-inner.ensures.ended

pub branch-returns-then-depth-eq0-clause-stays : goal.branch-returns-then-depth-eq0-clause-stays
branch-returns-then-depth-eq0-clause-stays t c why e = refl

pub branch-returns-then-depth-eq0-clause-line : goal.branch-returns-then-depth-eq0-clause-line
branch-returns-then-depth-eq0-clause-line t c block outer is told =
    head_deep_tells c.args.parser.now c.refuse.new.parser c.args.chained block outer c.args.depth c.args.line c.args.at.now c.if-depth-eq0.true told

pub branch-returns-then-depth-eq0-clause-ends : goal.branch-returns-then-depth-eq0-clause-ends
branch-returns-then-depth-eq0-clause-ends t c chained sound = absurd (never_failed c.condition_at-condition.new.parser c.refuse.new.parser _ c.refuse.ensures sound)

pub branch-returns-clause-stays : goal.branch-returns-clause-stays
branch-returns-clause-stays t c why e =
    let one = c.end_line.ensures.goes.sticks why (c.condition_at-condition.ensures.goes.sticks why e) in
    let two = c.statements-yes.ensures.reads.goes.sticks why one in
    c.end_branch.ensures.stays why (c.tail-no.ensures.reads.goes.sticks why two) ∙ (c.tail-no.ensures.stays why two ∙ c.statements-yes.ensures.stays why one)

pub branch-returns-clause-line : goal.branch-returns-clause-line
branch-returns-clause-line t c block outer is told =
    let head = reads_then (λ y. refl) (λ y here rest may e ends. line_end_condition here rest e) c.condition_at-condition.ensures c.end_line.ensures in
    let yes = on_scope (λ scope. statements_part scope (c.args.depth - 1)) head.goes c.statements-yes.ensures.reads in
    tells_made c.args.parser.now
    (branch_tells {ended = c.end_branch.new.parser} c.args.chained block outer c.args.depth c.args.line is (omega (arith, c.if-depth-eq0.false)) told head yes
    (record { stays = c.statements-yes.ensures.stays; tells = c.statements-yes.ensures.line }) c.statements-yes.ensures.ended
    (record {
      reads = on_scope (λ scope. tail_part scope (c.args.depth - 1)) (keeps_on head.goes yes.goes) c.tail-no.ensures.reads;
      stays = c.tail-no.ensures.stays;
      tells = c.tail-no.ensures.line;
      ends = c.tail-no.ensures.ends;
    })
    (record { sticks = c.end_branch.ensures.reads.goes.sticks; stays = c.end_branch.ensures.stays; tells = c.end_branch.ensures.line })) c.when.ensures

pub branch-returns-clause-ends : goal.branch-returns-clause-ends
branch-returns-clause-ends t c chained sound =
    let m = made_sound c.when.ensures sound in
    let whole = m.0 ∙ c.end_branch.ensures.same chained in
    let no_sound = sym (ap (λ (p : Parser). p.fault) whole) ∙ sound in
    when_ends (c.tail-no.ensures.ends (c.statements-yes.ensures.ended (sound_before c.tail-no.ensures.reads.goes no_sound)) no_sound) m.1 whole

pub for_loop-returns-then-depth-eq0-clause-stays : goal.for_loop-returns-then-depth-eq0-clause-stays
for_loop-returns-then-depth-eq0-clause-stays t c why e = refl

pub for_loop-returns-then-depth-eq0-clause-line : goal.for_loop-returns-then-depth-eq0-clause-line
for_loop-returns-then-depth-eq0-clause-line t c block outer is told =
    loop_deep_tells c.args.parser.now c.refuse.new.parser block outer c.args.depth c.args.line c.args.at.now c.if-depth-eq0.true told

pub for_loop-returns-clause-stays : goal.for_loop-returns-clause-stays
for_loop-returns-clause-stays t c why e =
    let one = c.end_line.ensures.goes.sticks why (c.span_at-span.ensures.goes.sticks why (c.variable-name.ensures.goes.sticks why e)) in
    c.end_block.ensures.stays why (c.body_of-body.ensures.reads.goes.sticks why one) ∙ c.body_of-body.ensures.stays why one

pub for_loop-returns-clause-line : goal.for_loop-returns-clause-line
for_loop-returns-clause-line t c block outer is told =
    let two = reads_then span_strict (λ y here rest may e ends. refl) c.variable-name.ensures (on_flag span_part c.variable-name.ensures.goes c.span_at-span.ensures) in
    let head = reads_then (λ y. refl) (λ y here rest may e ends. line_end_begins here rest e) two c.end_line.ensures in
    let body = on_scope (λ scope. statements_part (within_loop c.variable-name.result scope) (c.args.depth - 1)) head.goes c.body_of-body.ensures.reads in
    tells_made c.args.parser.now
    (loop_tells {ended = c.end_block.new.parser} block outer c.args.depth c.args.line is (omega (arith, c.if-depth-eq0.false)) told head body
    (record { stays = c.body_of-body.ensures.stays; tells = c.body_of-body.ensures.line }) c.body_of-body.ensures.ended
    (record { sticks = c.end_block.ensures.reads.goes.sticks; stays = c.end_block.ensures.stays; tells = c.end_block.ensures.line })) c.repeat.ensures

pub rest_of_statement-returns-in-For-clause-stays : goal.rest_of_statement-returns-in-For-clause-stays
rest_of_statement-returns-in-For-clause-stays t c = c.for_loop.ensures.stays

pub rest_of_statement-returns-in-If-clause-stays : goal.rest_of_statement-returns-in-If-clause-stays
rest_of_statement-returns-in-If-clause-stays t c = c.branch-parser.ensures.stays

pub rest_of_statement-returns-in_default-clause-stays : goal.rest_of_statement-returns-in_default-clause-stays
rest_of_statement-returns-in_default-clause-stays t c why e = refl

pub rest_of_statement-returns-in-For-clause-line : goal.rest_of_statement-returns-in-For-clause-line
rest_of_statement-returns-in-For-clause-line t c block outer is w told =
    subst (λ (v : Word). TellsLine (level_at block c.args.parser.now c.args.depth ∷ outer) c.args.parser.now c.for_loop.new.parser (from_word c.args.line v c.args.parser.now) c.for_loop.new.at) (sym c.in-For.is)
    (c.for_loop.ensures.line block outer is told)

pub rest_of_statement-returns-in-If-clause-line : goal.rest_of_statement-returns-in-If-clause-line
rest_of_statement-returns-in-If-clause-line t c block outer is w told =
    subst (λ (v : Word). TellsLine (level_at block c.args.parser.now c.args.depth ∷ outer) c.args.parser.now c.branch-parser.new.parser (from_word c.args.line v c.args.parser.now) c.branch-parser.new.at) (sym c.in-If.is)
    (c.branch-parser.ensures.line block outer is told)

pub rest_of_statement-returns-in_default-clause-line : goal.rest_of_statement-returns-in_default-clause-line
rest_of_statement-returns-in_default-clause-line t c block outer is w told =
    let plain = first_simple c.args.word (word_of_is (piece.Word c.args.word) c.args.word w).1 c.in_default.not-For c.in_default.not-If in
    simple_tells block outer c.args.depth c.args.line c.args.at.now c.args.word is w plain (c.simple.ensures c.args.depth plain) told

pub statement-returns-clause-stays : goal.statement-returns-clause-stays
statement-returns-clause-stays t c why e = c.rest_of_statement.ensures.stays why (c.step.ensures.fault ∙ e) ∙ c.begin_line.ensures.stays why e

pub statement-returns-clause-line : goal.statement-returns-clause-line
statement-returns-clause-line t c block outer settled w is =
    let old : Parser = c.args.parser.now in
    tells_begun c.rest_of_statement.new.parser c.args.word block outer c.args.depth (keeps_of c.step.ensures.goes) (λ sound. c.step.ensures.fault ∙ sound)
    (λ sound.
    ap (λ (n : ℕ). put_back n c.args.word (Some c.step.new.self.rest.now)) c.line-line.ensures
    ∙ (ap (λ (z : List Token). put_back (line_of_first_piece old.rest.now) c.args.word (Some z)) c.step.ensures.left
    ∙ put_back_is c.args.word old.rest.now (next_begins c.args.word old.fault old.rest.now sound is)))
    (λ sound. c.rest_of_statement.ensures.line block outer settled w (c.begin_line.ensures.sound sound ∙ sym c.line-line.ensures))

pub inside-returns-clause-stays : goal.inside-returns-clause-stays
inside-returns-clause-stays t c = c.statements-body.ensures.stays

pub inside-returns-clause-line : goal.inside-returns-clause-line
inside-returns-clause-line t c = c.statements-body.ensures.line

pub inside-returns-clause-ended : goal.inside-returns-clause-ended
inside-returns-clause-ended t c = c.statements-body.ensures.ended

pub body_of-returns-in-Ok-clause-stays : goal.body_of-returns-in-Ok-clause-stays
body_of-returns-in-Ok-clause-stays t c = c.inside.ensures.stays

pub body_of-returns-in-Ok-clause-line : goal.body_of-returns-in-Ok-clause-line
body_of-returns-in-Ok-clause-line t c block outer is =
    let old : Parser = c.args.parser.now in
    let pushed : Parser = record old { loops = c.push.new.self } in
    subst (λ (n : List ℕ). TellsLine (record { block = block; scope = record { in_parameter = old.in_parameter; names = old.names.now; parameters = old.parameters.items; loops = n }; depth = c.args.depth } ∷ outer) pushed c.inside.new.parser old.rest.now c.inside.new.at) c.in-Ok.ensures.items
    (c.inside.ensures.line block outer is)

pub body_of-returns-in-Ok-clause-ended : goal.body_of-returns-in-Ok-clause-ended
body_of-returns-in-Ok-clause-ended t c = c.inside.ensures.ended

pub body_of-returns-in-Err-clause-stays : goal.body_of-returns-in-Err-clause-stays
body_of-returns-in-Err-clause-stays t c why e = refl

pub body_of-returns-in-Err-clause-line : goal.body_of-returns-in-Err-clause-line
body_of-returns-in-Err-clause-line t c block outer is =
    let old : Parser = c.args.parser.now in
    let pushed : Parser = record old { loops = c.push.new.self } in
    let level : Level = record { block = block; scope = within_loop c.args.name (scope_of old); depth = c.args.depth } in
    tells_made old {mid = pushed} {Made = Unit {0}} (tells_none (level ∷ outer) old pushed old.rest.now c.args.at.now refl) (inr c.refuse.ensures)

pub body_of-returns-in-Err-clause-ended : goal.body_of-returns-in-Err-clause-ended
body_of-returns-in-Err-clause-ended t c sound = absurd (never_failed (record c.args.parser.now { loops = c.push.new.self }) c.refuse.new.parser _ c.refuse.ensures sound)

pub tail-returns-then-take-clause-stays : goal.tail-returns-then-take-clause-stays
tail-returns-then-take-clause-stays t c why e = c.branch-parser.ensures.stays why ((c.if-take.ensures.passed refl).0 ∙ e) ∙ c.begin_line.ensures.stays why e

pub tail-returns-then-take-clause-line : goal.tail-returns-then-take-clause-line
tail-returns-then-take-clause-line t c outer =
    let old : Parser = c.args.parser.now in
    let passed = c.if-take.ensures.passed refl in
    tells_begun c.branch-parser.new.parser word.Elif lines.branch outer c.args.depth (keeps_of c.take.ensures.goes) (λ sound. passed.0 ∙ sound)
    (λ sound.
    ap (λ (n : ℕ). put_back n word.Elif (Some c.take.new.self.rest.now)) c.line-line.ensures
    ∙ (ap (λ (z : List Token). put_back (line_of_first_piece old.rest.now) word.Elif (Some z)) passed.1
    ∙ put_back_is word.Elif old.rest.now (c.if-take.ensures.there refl sound refl)))
    (λ sound. c.branch-parser.ensures.line lines.branch outer refl (c.begin_line.ensures.sound sound ∙ sym c.line-line.ensures))

pub tail-returns-then-take-clause-ends : goal.tail-returns-then-take-clause-ends
tail-returns-then-take-clause-ends t c before sound = c.branch-parser.ensures.ends refl sound

pub tail-returns-then-take-2-clause-stays : goal.tail-returns-then-take-2-clause-stays
tail-returns-then-take-2-clause-stays t c why e =
    c.after_else.ensures.stays why ((c.if-take-2.ensures.passed refl).0 ∙ (ap (λ (p : Parser). p.fault) (c.if-take.ensures.left refl) ∙ e)) ∙ c.begin_line.ensures.stays why e

pub tail-returns-then-take-2-clause-line : goal.tail-returns-then-take-2-clause-line
tail-returns-then-take-2-clause-line t c outer =
    let old : Parser = c.args.parser.now in
    let mid : Parser = c.take.new.self in
    let kept : mid ≡ old = c.if-take.ensures.left refl in
    let passed = c.if-take-2.ensures.passed refl in
    let line : ℕ = line_of_first_piece mid.rest.now in
    let tells = tells_begun c.after_else.new.parser word.Else lines.branch outer c.args.depth (keeps_of c.take-2.ensures.goes) (λ sound. passed.0 ∙ sound)
    (λ sound.
    ap (λ (z : List Token). put_back line word.Else (Some z)) passed.1
    ∙ put_back_is word.Else mid.rest.now (c.if-take-2.ensures.there refl sound refl))
    (λ sound. c.after_else.ensures.line line outer (c.begin_line.ensures.sound (sym (ap (λ (p : Parser). p.fault) kept) ∙ sound) ∙ ap (λ (p : Parser). line_of_first_piece p.rest.now) (sym kept))) in
    subst (λ (p : Parser). TellsLine (level_at lines.branch p c.args.depth ∷ outer) p c.after_else.new.parser p.rest.now c.after_else.new.at) kept tells

pub tail-returns-then-take-2-clause-ends : goal.tail-returns-then-take-2-clause-ends
tail-returns-then-take-2-clause-ends t c before sound = record {
  ends = c.after_else.ensures.ended sound;
  closed = λ e. absurd (else_shut (held c.after_else.result) ((c.after_else.ensures.reads 0).may sound) e);
}

pub tail-returns-clause-stays : goal.tail-returns-clause-stays
tail-returns-clause-stays t c = c.begin_line.ensures.stays

pub tail-returns-clause-line : goal.tail-returns-clause-line
tail-returns-clause-line t c outer =
    tells_made c.args.parser.now
    (tells_none (level_at lines.branch c.args.parser.now c.args.depth ∷ outer) c.args.parser.now c.take-2.new.self c.args.parser.now.rest.now c.begin_line.new.at
    (ap (λ (p : Parser). p.fault) (c.if-take-2.ensures.left refl ∙ c.if-take.ensures.left refl))) c.keep.ensures

pub tail-returns-clause-ends : goal.tail-returns-clause-ends
tail-returns-clause-ends t c before sound =
    kept_ends (none_ends (c.if-take.ensures.left refl) (c.if-take-2.ensures.left refl) (sym c.if-take.ensures.found) (sym c.if-take-2.ensures.found) before) c.keep.ensures sound
