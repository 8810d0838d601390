use Rattle.std.proofs.Common.{ℕ, List, Option, refl, ◌∙◌, subst}
use Rattle.clocks.specs.parts.Clocks.{block_of}
use Rattle.knowledge.specs.Knowledge.{with_partners}
use Rattle.clocks.specs.parts.Exact.{IsUnorderedBy, ShowsFrom}
use Rattle.clocks.specs.parts.Finders.{IsLookedAt, group_at}
use Rattle.clocks.proofs.Extending.{between_shown, if_nothing, if_something, none_shown_yet, one_more_shown}
use Rattle.clocks.proofs.race.race_in_group.Goals as goal

pub loop-place-init : goal.loop-place-init
loop-place-init c = record {
  partners = refl;
  asked = c.requires.asked;
  shown = none_shown_yet c.args.program.now (block_of c.args.names.now) c.args.state.now (with_partners c.args.exact.now.partners) c.args.columns.now c.args.told.now (group_at c.args.finders.now c.args.group) c.args.other c.first_unknown-low.result;
}

pub returns-in-Some-clause-unordered : goal.returns-in-Some-clause-unordered
returns-in-Some-clause-unordered c =
    subst (λ (z : List (Option ℕ)). IsUnorderedBy c.args.program.now (with_partners z) c.args.other c.in-Some.finder) c.loop-place.invariant.partners
    (if_something c.in_ok-found.found (λ finder. IsUnorderedBy c.args.program.now (with_partners c.loop-place.exact.partners) c.args.other finder) c.in-Some.finder c.in-Some.is c.in_ok-found.ensures.unordered)

pub loop-place-preserved : goal.loop-place-preserved
loop-place-preserved c = record {
  partners = c.race_at.ensures.partners ∙ c.loop-place.invariant.partners;
  asked = c.race_at.ensures.asked;
  shown =
      one_more_shown c.args.program.now (block_of c.args.names.now) c.args.state.now (with_partners c.args.exact.now.partners) c.args.columns.now c.args.told.now (group_at c.args.finders.now c.args.group) c.args.other c.first_unknown-low.result c.loop-place.place c.loop-place.invariant.shown
      (subst (λ (z : List (Option ℕ)). ShowsFrom c.args.program.now (with_partners z) c.args.columns.now c.args.told.now (IsLookedAt c.args.program.now (block_of c.args.names.now) c.args.state.now (group_at c.args.finders.now c.args.group) c.loop-place.place c.args.other)) c.loop-place.invariant.partners
      (if_nothing c.in_ok-found.found (ShowsFrom c.args.program.now (with_partners c.loop-place.exact.partners) c.args.columns.now c.args.told.now (IsLookedAt c.args.program.now (block_of c.args.names.now) c.args.state.now (group_at c.args.finders.now c.args.group) c.loop-place.place c.args.other)) c.in_default.is c.in_ok-found.ensures.none));
}

pub returns-clause-none : goal.returns-clause-none
returns-clause-none c =
    between_shown c.args.program.now (block_of c.args.names.now) c.args.state.now (with_partners c.args.exact.now.partners) c.args.columns.now c.args.told.now (group_at c.args.finders.now c.args.group) c.args.other c.args.first c.args.end c.before-2.result c.before-high.result c.first_unknown-low.result c.loop-place.place c.before-2.ensures c.before-high.ensures c.loop-place-test.false
    (λ knows are. c.first_unknown-low.ensures c.args.columns.now c.args.finders.now knows c.requires.covers are) c.loop-place.invariant.shown
