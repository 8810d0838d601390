use Rattle.std.proofs.Common.{◌≡◌, Ok, Result, ap, sym, ◌∙◌, rules}
use Rattle.std.proofs.lemmas.Bool.{false≢true}
use Rattle.std.specs.Global.{Vec}
use Rattle.semantics.specs.declared.state.Step.{Step}
use Rattle.frequency.specs.declared.judging.Frequency.{Frequency}
use Rattle.frequency.specs.declared.judging.Frequency.TheVariants.{Always, Sometimes, Unknown}
use Rattle.frequency.proofs.Judged.{configuration, each_sticks, each_sticks_if_shown, sticks}
use Rattle.frequency.proofs.judging.judge_run.Goals as goal

always_known : {E : Type 0} → ◌≡◌ {A = Result Frequency E} (Ok Always) (Ok Unknown) → ⊥
always_known same = cc

some_known : {E : Type 0} (steps : Vec Step) → ◌≡◌ {A = Result Frequency E} (Ok (Sometimes steps)) (Ok Unknown) → ⊥
some_known steps same = cc

pub shows_no_race-requires : goal.shows_no_race-requires
shows_no_race-requires c = configuration c.args.program.now c.args.steps.items c.args.state.now c.calls-calls.ensures.kept c.requires.run c.requires.end

pub returns-then-names_sources-clause-frequency : goal.returns-then-names_sources-clause-frequency
returns-then-names_sources-clause-frequency c =
    each_sticks c.args.program.now c.args.steps.items c.args.state.now c.in-Some._rank c.calls-calls.ensures.kept c.requires.run c.requires.end c.in-Some.ensures.some
    (c.names_sources.ensures.0 c.if-names_sources.true)

pub returns-then-is_shown-clause-frequency : goal.returns-then-is_shown-clause-frequency
returns-then-is_shown-clause-frequency c =
    each_sticks_if_shown c.args.program.now c.args.steps.items c.args.state.now c.in-Some._rank c.calls-calls.ensures.kept c.requires.run c.requires.end c.in-Some.ensures.some
    (c.shows_no_race.ensures (c.in_ok-is_shown.was ∙ ap Ok c.if-is_shown.true))

pub returns-in_default-clause-frequency : goal.returns-in_default-clause-frequency
returns-in_default-clause-frequency c = search rules

pub returns-in_err-is_shown-clause-frequency : goal.returns-in_err-is_shown-clause-frequency
returns-in_err-is_shown-clause-frequency c = search rules

pub returns-in_err-least-clause-frequency : goal.returns-in_err-least-clause-frequency
returns-in_err-least-clause-frequency c = search rules

pub returns-in-Some-2-clause-frequency : goal.returns-in-Some-2-clause-frequency
returns-in-Some-2-clause-frequency c = search rules

pub returns-clause-frequency : goal.returns-clause-frequency
returns-clause-frequency c = record {
  run = c.args.steps.items;
  most = c.requires.run;
  stuck = sticks c.args.program.now c.args.steps.items c.args.state.now c.in-Some._rank c.requires.run c.requires.end c.in-Some.ensures.some;
  unnamed = λ names. false≢true (sym c.if-names_sources.false ∙ c.names_sources.ensures.1 names);
  least = search rules;
}

pub returns-in_default-clause-named : goal.returns-in_default-clause-named
returns-in_default-clause-named c = λ _ same. some_known c.args.steps same

pub returns-then-names_sources-clause-named : goal.returns-then-names_sources-clause-named
returns-then-names_sources-clause-named c = λ _ same. always_known same

pub returns-then-is_shown-clause-named : goal.returns-then-is_shown-clause-named
returns-then-is_shown-clause-named c = λ _ same. always_known same

pub returns-in-Some-2-clause-named : goal.returns-in-Some-2-clause-named
returns-in-Some-2-clause-named c = λ _ same. some_known c.in-Some-2.least same

pub returns-clause-named : goal.returns-clause-named
returns-clause-named c = λ names _. false≢true (sym c.if-names_sources.false ∙ c.names_sources.ensures.1 names)
