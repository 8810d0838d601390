use Rattle.std.proofs.Common.{sym, ◌∙◌}
use Rattle.clocks.specs.parts.Clocks.{block_of}
use Rattle.knowledge.specs.Knowledge.{with_partners}
use Rattle.clocks.specs.parts.Finders.{IsLookedAt, group_at}
use Rattle.clocks.proofs.Extending.{nothing_there, ordered_there, shown_there, shows_always}
use Rattle.clocks.proofs.race.race_at.Goals as goal

pub returns-in_default-clause-none : goal.returns-in_default-clause-none
returns-in_default-clause-none c =
    shows_always c.args.program.now (with_partners c.args.exact.now.partners) c.args.columns.now c.args.told.now (IsLookedAt c.args.program.now (block_of c.args.names.now) c.args.state.now (group_at c.args.finders.now c.args.group) c.args.place c.args.other)
    (λ knows are. nothing_there c.args.program.now (block_of c.args.names.now) c.args.state.now (group_at c.args.finders.now c.args.group) c.args.place c.args.other knows (sym c.at.ensures ∙ c.in_default.is))

pub returns-then-is_no_race_if_found-clause-none : goal.returns-then-is_no_race_if_found-clause-none
returns-then-is_no_race_if_found-clause-none c =
    shown_there c.args.program.now (block_of c.args.names.now) c.args.state.now (with_partners c.args.exact.now.partners) c.args.columns.now c.args.told.now (group_at c.args.finders.now c.args.group) c.args.place c.args.other c.in-Some.finder (sym c.at.ensures ∙ c.in-Some.is)
    (c.is_no_race_if_found.ensures.none c.if-is_no_race_if_found.true)

pub returns-then-is_ordered-clause-none : goal.returns-then-is_ordered-clause-none
returns-then-is_ordered-clause-none c =
    ordered_there c.args.program.now (block_of c.args.names.now) c.args.state.now (with_partners c.args.exact.now.partners) c.args.columns.now c.args.told.now (group_at c.args.finders.now c.args.group) c.args.place c.args.other c.in-Some.finder (sym c.at.ensures ∙ c.in-Some.is)
    (c.in_ok-is_ordered.ensures.ordered c.if-is_ordered.true)

pub returns-clause-rival : goal.returns-clause-rival
returns-clause-rival c = c.is_no_race_if_found.ensures.rival c.if-is_no_race_if_found.false

pub returns-clause-unordered : goal.returns-clause-unordered
returns-clause-unordered c = c.in_ok-is_ordered.ensures.unordered c.if-is_ordered.false
