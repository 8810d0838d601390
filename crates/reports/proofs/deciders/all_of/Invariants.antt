use Rattle.std.proofs.Common.{◌≡◌, map, take}
use Rattle.choices.specs.Words.{need_words}
use Rattle.reports.proofs.deciders.all_of.Given as goal

abbrev pub invariant-loop-weighed : goal.invariant-loop-weighed
invariant-loop-weighed l = map (λ d. d.verdict.now) l.choices.items ≡ map (λ w. need_words w.need) (take l.weighed-index l.decided.choices.items)
