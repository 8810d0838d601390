use Rattle.std.proofs.Common.{◌≡◌, ◌∙◌, IfSome, Option, Some, ap, subst, sym}
use Rattle.clocks.specs.declared.race.Race.{Race}
use Rattle.calltext.specs.Grammar.{long}
use Rattle.semantics.specs.RunEnds.{IsFinished, IsFinishedRun}
use Rattle.races.specs.Races.{BuffersNoneByChoice}
use Rattle.semantics.specs.Machine.{Configuration, after_all, opening}
use Rattle.clocks.specs.Clocks.{IsUnordered}
use Rattle.races.proofs.Kept.{Kept}
use Rattle.races.proofs.Passing.{kept_run}
use Rattle.races.proofs.Telling.{programs_are_in_order}
use Rattle.deciding.proofs.Racing.{if_none}
use Rattle.deciding.proofs.decision.judge_run.Goals as goal

pub first_race-requires-clause-finished : goal.first_race-requires-clause-finished
first_race-requires-clause-finished c =
    let p = c.args.program.now in
    let run = c.requires.run in
    subst (IsFinishedRun p) (sym c.deref.ensures.value)
    (record {
      run = run.run;
      finished = subst (IsFinished p) c.requires.end (if_none c.unfinished.result _ c.is_some.result c.is_some.ensures c.if-is_some.false c.unfinished.ensures.none);
    })

pub first_race-requires-clause-choice : goal.first_race-requires-clause-choice
first_race-requires-clause-choice c =
    subst (BuffersNoneByChoice c.args.program.now) (sym c.deref.ensures.value) c.requires.run.choice

pub named_race-requires-clause-fit : goal.named_race-requires-clause-fit
named_race-requires-clause-fit c =
    let p = c.args.program.now in
    let run = c.requires.run in
    let order = programs_are_in_order long p c.calls-calls.ensures.kept in
    (subst (Kept p) (sym c.requires.end) (kept_run p c.args.steps.items order.0 run.run)).fit

told : (o : Option Race) (race : Race) (P : Race → Type 0) → o ≡ Some race → IfSome o P → P race
told o race P is holds = subst (λ (given : Option Race). IfSome given P) is holds

pub named_race-requires-clause-unordered : goal.named_race-requires-clause-unordered
named_race-requires-clause-unordered c =
    let p = c.args.program.now in
    subst (λ (m : Configuration). IsUnordered p m c.in-Ok-Some.race) (ap (after_all (opening p)) c.deref.ensures.value ∙ sym c.requires.end)
    (told c.in-Ok-Some.field-0 c.in-Ok-Some.race (IsUnordered p (after_all (opening p) c.deref.result.now)) c.in-Ok-Some.field-0-is c.in-Ok-Some.ensures.unordered)

pub named_race-requires-clause-ended : goal.named_race-requires-clause-ended
named_race-requires-clause-ended c =
    let p = c.args.program.now in
    let run = c.requires.run in (
      c.args.steps.items,
      record {
        run = run.run;
        finished = subst (IsFinished p) c.requires.end (if_none c.unfinished.result _ c.is_some.result c.is_some.ensures c.if-is_some.false c.unfinished.ensures.none);
      },
      run.choice,
      c.requires.end,
    )
