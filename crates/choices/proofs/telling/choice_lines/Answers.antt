use Rattle.std.proofs.Common.{arith, sym}
use Rattle.std.specs.Prelude.{string_bytes}
use Rattle.choices.proofs.ChoiceLines.{lines_all, lines_more}
use Rattle.choices.proofs.telling.choice_lines.Goals as goal

pub loop-weighed-preserved : goal.loop-weighed-preserved
loop-weighed-preserved c =
    lines_more c.args.choices.now c.loop-weighed.weighed-index c.weighed-item.result (string_bytes c.loop-weighed.out) _ _ (omega arith) (sym c.weighed-item.is) c.in_ok-put_choice.ensures c.loop-weighed.invariant

pub returns : goal.returns
returns c = lines_all c.args.choices.now c.loop-weighed.weighed-index (string_bytes c.loop-weighed.out) (omega arith) (omega arith) c.loop-weighed.invariant
