use Rattle.std.proofs.Common.{◌∙◌, ap, arith, get_or}
use Rattle.choices.specs.Words.{need_words}
use Rattle.reports.proofs.Verdicts.{told_all, told_more}
use Rattle.reports.proofs.deciders.all_of.Goals as goal

pub loop-weighed-preserved : goal.loop-weighed-preserved
loop-weighed-preserved c =
    told_more (λ d. d.verdict.now) (λ w. need_words w.need) c.loop-weighed.choices.items c.push.new.self.items c.decider_of.result c.args.decided.now.choices.items c.loop-weighed.weighed-index c.weighed-item.result
    (omega arith) (c.weighed-item.is ∙ ap (λ items. get_or items c.loop-weighed.weighed-index c.weighed-item.result) c.deref-weighed-items.ensures.value) c.in_ok-push.ensures.items c.decider_of.ensures c.loop-weighed.invariant

pub returns : goal.returns
returns c =
    told_all (λ d. d.verdict.now) (λ w. need_words w.need) c.loop-weighed.choices.items c.args.decided.now.choices.items c.loop-weighed.weighed-index (omega arith) (omega arith) c.loop-weighed.invariant
