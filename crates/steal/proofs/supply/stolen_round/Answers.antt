use Rattle.std.proofs.Common.{◌∙◌, ◌+◌, ◌%◌, ◌<◌, ◌∷◌, List, ℕ, length, refl, ap, count_by, arith}
use Rattle.steal.specs.Seats.{IsSameThief}
use Rattle.steal.proofs.Thefts.{same_thieves-set, stolen_by-set, count_stolen-set}
use Rattle.steal.proofs.Places.{AllZip-refl}
use Rattle.steal.proofs.supply.stolen_round.Goals as goal

pub loop-step-init : goal.loop-step-init
loop-step-init c = record { same = AllZip-refl IsSameThief (λ t. refl) c.args.thieves.now; none = refl }

pub returns-in-Some-clause-same : goal.returns-in-Some-clause-same
returns-in-Some-clause-same c =
    let place = (c.args.worker + c.loop-step.step) % length c.args.thieves.now in
    same_thieves-set c.args.thieves.now c.loop-step.thieves place c.index-thieves-place.result c.stolen_soon.new.thief c.in-Some.ensures.same c.loop-step.invariant.same

pub returns-in-Some-clause-cube : goal.returns-in-Some-clause-cube
returns-in-Some-clause-cube c p =
    let place = (c.args.worker + c.loop-step.step) % length c.args.thieves.now in
    let within : place < length c.loop-step.thieves = omega arith in
    count_stolen-set p c.loop-step.thieves place c.index-thieves-place.result c.stolen_soon.new.thief c.in-Some.cube within c.in-Some.ensures.cube
    ∙ ap (λ (l : List ℕ). count_by p (c.in-Some.cube ∷ l)) c.loop-step.invariant.none

pub loop-step-preserved : goal.loop-step-preserved
loop-step-preserved c =
    let place = (c.args.worker + c.loop-step.step) % length c.args.thieves.now in
    let old = c.index-thieves-place.result in
    let new = c.stolen_soon.new.thief in
    record {
      same = same_thieves-set c.args.thieves.now c.loop-step.thieves place old new c.in_default.ensures.same c.loop-step.invariant.same;
      none = stolen_by-set c.loop-step.thieves place old new c.in_default.ensures.cube ∙ c.loop-step.invariant.none;
    }
