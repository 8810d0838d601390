use Rattle.std.proofs.Common.{arith, refl, sym, subst, rules}
use Rattle.std.specs.Prelude.{All}
use Rattle.std.proofs.lemmas.Grind.{common_steps}
use Rattle.prooflog.specs.Steps.{written, IsStepInRange}
use Rattle.prooflog.proofs.Schedules.{is_schedule, step_at, few_steps}
use Rattle.prooflog.proofs.schedule.Schedule.make.Goals as goal
use Rattle.prooflog.proofs.schedule.Schedule.make.Goals.{then-len-gt-MOST_STEPS-via-then-len-gt-MOST_STEPS, then-len-gt-MOST_STEPS-via-else-len-gt-MOST_STEPS+then-not-are_in_range}

pub returns-then-len-gt-MOST_STEPS-clause-when : goal.returns-then-len-gt-MOST_STEPS-clause-when
returns-then-len-gt-MOST_STEPS-clause-when c = (
  λ e. absurd cc,
  λ is. absurd (
      elim c.then-len-gt-MOST_STEPS.branch [
        | then-len-gt-MOST_STEPS-via-then-len-gt-MOST_STEPS w ↦ (let few = few_steps c.args.steps.items is in grind (arith, common_steps, few, c.len.ensures, w.if-len-gt-MOST_STEPS.true))
        | then-len-gt-MOST_STEPS-via-else-len-gt-MOST_STEPS+then-not-are_in_range w ↦
            (let t = w.are_in_range.ensures.1 (subst (All (λ step. IsStepInRange (written step))) (sym w.deref.ensures.value) (step_at c.args.steps.items is)) in let f = w.if-not-are_in_range.true in cc)
      ]
      ),
)

pub invariant_of-result : goal.invariant_of-result
invariant_of-result c =
    is_schedule c.args.steps.items (grind (arith, common_steps, c.len.ensures, c.if-len-gt-MOST_STEPS.false)) (subst (All (λ step. IsStepInRange (written step))) c.deref.ensures.value (c.are_in_range.ensures.0 c.if-not-are_in_range.false))

pub returns-clause-when : goal.returns-clause-when
returns-clause-when c = (λ e. invariant_of-result c, λ is. refl)

pub returns-then-len-gt-MOST_STEPS-clause-made : goal.returns-then-len-gt-MOST_STEPS-clause-made
returns-then-len-gt-MOST_STEPS-clause-made c = search rules

pub returns-then-len-gt-MOST_STEPS-clause-back : goal.returns-then-len-gt-MOST_STEPS-clause-back
returns-then-len-gt-MOST_STEPS-clause-back c = search rules

pub returns-clause-made : goal.returns-clause-made
returns-clause-made c = search rules

pub returns-clause-back : goal.returns-clause-back
returns-clause-back c = search rules
