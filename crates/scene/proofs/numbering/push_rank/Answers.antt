use Rattle.std.proofs.Common.{List, ◌++◌, ◌∙◌, ap, arith}
use Rattle.std.proofs.lemmas.List.{take_all}
use Rattle.calltext.specs.declared.call.CallLine.{CallLine}
use Rattle.scene.proofs.LineNumbers.{numbers_of, numbers_more}
use Rattle.scene.proofs.numbering.push_rank.Goals as goal

pub loop-index-preserved : goal.loop-index-preserved
loop-index-preserved c =
    λ rank. numbers_more c.args.heading rank c.loop-index.index c.calls_of.result c.args.lines.now c.index-lines-index.result c.args.numbers.now.items c.loop-index.numbers.items c.push_line.new.numbers.items (omega arith) c.index-lines-index.is c.calls_of.ensures (c.loop-index.invariant rank) c.in_ok-push_line.ensures

pub returns : goal.returns
returns c =
    λ rank. c.loop-index.invariant rank ∙ ap (λ (l : List CallLine). c.args.numbers.now.items ++ numbers_of c.args.heading rank l) (take_all c.loop-index.index c.args.lines.now (omega arith))
