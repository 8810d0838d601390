use Rattle.std.proofs.Common.{take}
use Rattle.std.specs.Prelude.{string_bytes}
use Rattle.choices.specs.Words.{AreChoiceLines}
use Rattle.choices.proofs.telling.choice_lines.Given as goal

abbrev pub invariant-loop-weighed : goal.invariant-loop-weighed
invariant-loop-weighed l = AreChoiceLines (take l.weighed-index l.choices) (string_bytes l.out)
