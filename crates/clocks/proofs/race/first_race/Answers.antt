use Rattle.calltext.specs.Grammar.{long}
use Rattle.semantics.specs.Machine.{opening, after_all}
use Rattle.races.proofs.OneWay.{named_sources_never_stick}
use Rattle.races.proofs.Telling.{programs_are_in_order}
use Rattle.clocks.proofs.Shown.{none_is_stuck, shown_if}
use Rattle.clocks.proofs.race.first_race.Goals as goal

pub returns-then-names_sources-clause-none : goal.returns-then-names_sources-clause-none
returns-then-names_sources-clause-none c = λ is other stuck. named_sources_never_stick c.args.program.now c.args.run.now other (programs_are_in_order long c.args.program.now c.calls-calls.ensures.kept).0 (programs_are_in_order long c.args.program.now c.calls-calls.ensures.kept).1 (c.names_sources.ensures.0 c.if-names_sources.true) c.requires.finished c.requires.choice stuck

pub returns-clause-none : goal.returns-clause-none
returns-clause-none c = λ is other stuck. none_is_stuck c.args.program.now c.args.run.now other c.calls-calls.ensures.kept c.requires.finished c.requires.choice (shown_if c.args.program.now (after_all (opening c.args.program.now) c.args.run.now) _ c.race_of.result c.in_ok-state.ensures.after c.race_of.ensures.none is) stuck
