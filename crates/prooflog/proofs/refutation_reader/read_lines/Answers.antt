use Rattle.std.proofs.Common.{◌+◌, ◌<◌, ◌≤◌, [], ◌∷◌, ◌++◌, length, arith, sym, subst}
use Rattle.std.proofs.lemmas.Grind.{common_steps}
use Rattle.plaintext.specs.Plain.{text_lines}
use Rattle.prooflog.specs.parts.Reading.{words_of, IsUnread, LinesSoFar}
use Rattle.prooflog.proofs.ProofLines.{one_more_line, lines_stop_syntax, lines_stop_range, lines_stop_large, lines_unended, no_proof_line, proof_line_is, no_tree_line}
use Rattle.prooflog.proofs.refutation_reader.read_lines.Goals as goal

pub returns-in-Err-Syntax-clause-fault : goal.returns-in-Err-Syntax-clause-fault
returns-in-Err-Syntax-clause-fault c =
    let line = c.in-Some.line.now in
    λ version v clauses v_fits c_fits. lines_stop_syntax c.args.bytes.now c.loop-line.rest.now c.loop-line.number c.loop-line.lines.items c.loop-line.invariant (line ++ 10 ∷ []) (text_lines c.in-Some.after.now) c.in-Some.ensures.some version v clauses v_fits c_fits
    (no_proof_line line (subst (IsUnread (words_of line)) c.in-Err-Syntax.field-0-is c.in-Err-Syntax.ensures.why)) (no_tree_line line (λ e. let t = c.is_word.ensures.1 e in let f = c.if-is_word.false in cc))

pub returns-in-Err-Range-clause-fault : goal.returns-in-Err-Range-clause-fault
returns-in-Err-Range-clause-fault c =
    let line = c.in-Some.line.now in
    let read = subst (IsUnread (words_of line)) c.in-Err-Range.field-0-is c.in-Err-Range.ensures.why in
    λ version v clauses v_fits c_fits. lines_stop_range c.args.bytes.now c.loop-line.rest.now c.loop-line.number c.loop-line.lines.items c.loop-line.invariant (line ++ 10 ∷ []) (text_lines c.in-Some.after.now) c.in-Some.ensures.some version v clauses v_fits c_fits
    read.0 (proof_line_is line read.0 read.1) read.2

pub returns-then-len-ge-MOST_LINES-clause-fault : goal.returns-then-len-ge-MOST_LINES-clause-fault
returns-then-len-ge-MOST_LINES-clause-fault c =
    let line = c.in-Some.line.now in
    let found = c.in-Ok.ensures.found in
    let full : 1000000 ≤ length c.loop-line.lines.items = grind (arith, common_steps, c.len.ensures, c.if-len-ge-MOST_LINES.true) in
    λ version v clauses v_fits c_fits. lines_stop_large c.args.bytes.now c.loop-line.rest.now c.loop-line.number c.loop-line.lines.items c.loop-line.invariant (line ++ 10 ∷ []) (text_lines c.in-Some.after.now) c.in-Some.ensures.some version v clauses v_fits c_fits
    c.in-Ok.line (proof_line_is line c.in-Ok.line found.0) found.1 full

pub loop-line-preserved : goal.loop-line-preserved
loop-line-preserved c =
    let line = c.in-Some.line.now in
    let found = c.in-Ok.ensures.found in
    let room : length c.loop-line.lines.items < 1000000 = grind (arith, common_steps, c.len.ensures, c.if-len-ge-MOST_LINES.false) in
    subst (λ items. LinesSoFar c.args.bytes.now c.in-Some.after.now (c.loop-line.number + 1) items) (sym c.in_ok-push-in-Ok.ensures.items) (
    one_more_line c.args.bytes.now c.loop-line.rest.now c.in-Some.after.now c.loop-line.number c.loop-line.lines.items c.in-Ok.line (line ++ 10 ∷ []) c.loop-line.invariant c.in-Some.ensures.some (proof_line_is line c.in-Ok.line found.0) found.1 room
    )

pub returns-clause-fault : goal.returns-clause-fault
returns-clause-fault c = lines_unended c.args.bytes.now c.loop-line.rest.now c.loop-line.number c.loop-line.lines.items c.loop-line.invariant c.in_default.ensures.none

pub returns-then-is_word-clause-cut : goal.returns-then-is_word-clause-cut
returns-then-is_word-clause-cut c = grind (arith, common_steps)
