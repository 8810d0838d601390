use Rattle.std.proofs.lemmas.Grind.{common_steps}
use Rattle.std.proofs.Common.{[], ◌∷◌, ◌++◌, sym, subst, arith}
use Rattle.prooflog.proofs.ProofLines.{proof_line_is}
use Rattle.prooflog.proofs.Parts.{WholeSoFar, one_more_whole}
use Rattle.prooflog.proofs.ahead.whole_lines.Goals as goal

pub loop-line-preserved : goal.loop-line-preserved
loop-line-preserved c =
    let line = c.in-Some.line.now in
    let found = c.in-Ok.ensures.found in
    subst (WholeSoFar c.args.bytes.now c.in-Some.after.now) (sym c.in-Ok-push.ensures.items) (
    one_more_whole c.args.bytes.now c.loop-line.rest.now c.in-Some.after.now c.loop-line.lines.items c.in-Ok.line (line ++ 10 ∷ []) c.loop-line.invariant c.in-Some.ensures.some (proof_line_is line c.in-Ok.line found.0) found.1
    )

pub returns : goal.returns
returns c = grind (arith, common_steps)
