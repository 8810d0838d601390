use Rattle.std.proofs.Common.{map, Option, IfSome, ap, subst, ◌∙◌, arith}
use Rattle.std.specs.List.{list_all}
use Rattle.std.proofs.lemmas.List.{length-map}
use Rattle.pool.specs.Replies.{resolved, resolved_lines, DeriveAfter}
use Rattle.pool.specs.Moves.{NumberedLines, AreOfBatch, moved_line}
use Rattle.pool.proofs.Renumbered.{holds, lines_moved, derived_hold}
use Rattle.pool.proofs.extend.lines_behind.Goals as goal

pub numbered-requires : goal.numbered-requires
numbered-requires c =
    let batch = c.args.batch.now in
    let base = c.args.base in
    let d = c.in-Some.derived in
    let of = subst (λ (o : Option NumberedLines). IfSome o (λ n. AreOfBatch batch n)) c.in-Some.is c.requires.lines in
    let derive = subst (λ (o : Option NumberedLines). IfSome o (λ _. DeriveAfter c.args.formula.now c.args.log.now (resolved_lines base batch))) c.in-Some.is c.requires.derived in
    let moved = ap (map (moved_line d.base base)) of.0 ∙ lines_moved d.base base batch of.1 in
    ap (list_all holds) moved
    ∙ derived_hold c.args.formula.now c.args.log.now (resolved_lines base batch) (omega (arith, c.requires.few, length-map batch (resolved base))) derive

pub returns-in-Some-clause-lines : goal.returns-in-Some-clause-lines
returns-in-Some-clause-lines c =
    let batch = c.args.batch.now in
    let d = c.in-Some.derived in
    let of = subst (λ (o : Option NumberedLines). IfSome o (λ n. AreOfBatch batch n)) c.in-Some.is c.requires.lines in
    c.numbered.ensures ∙ ap (map (moved_line d.base c.args.base)) of.0 ∙ lines_moved d.base c.args.base batch of.1
