use Rattle.spmd_program.proofs.SaidLines.{said_more}
use Rattle.spmd_program.proofs.said.said_lines.Goals as goal

pub loop-line-preserved : goal.loop-line-preserved
loop-line-preserved c =
    said_more c.loop-line.lines.items c.push.new.self.items c.in_ok-words_of.field-0 c.loop-line.rest.now c.in-Some.line.now c.in-Some.behind.now c.args.text.now
    c.in-Some.ensures.some c.in_ok-words_of.ensures c.in_ok-push.ensures.items c.loop-line.invariant
