-- Phases have no stuck run one after another.
use Rattle.std.proofs.Common.{◌≡◌, List, [], ◌∷◌, ◌∙◌, refl}
use Rattle.callorder.specs.Programs.{MpiProgram}
use Rattle.semantics.specs.Headline.{NoStuckRun}
use Rattle.phases.specs.CallPlaces.{IsWellFormed}
use Rattle.phases.specs.Cuts.{IsCutInTwo}
use Rattle.phases.specs.Joining.{join, join_all, cut_between}
use Rattle.phases.specs.Laws.{ProgramsAreWellFormed, LeavesNothingIsBalanced, ArePhases, FollowsInTime, IsNamedBefore, IsOrderedBefore, TimelyPhasesAreNeverStuck, NamedPhasesAreNeverStuck, OrderedPhasesAreNeverStuck}
use Rattle.phases.proofs.Walks.{whole_is_never_stuck}
use Rattle.phases.proofs.Clean.{balanced_is_clean, named_is_timely}
use Rattle.phases.proofs.Envelopes.{ordered_is_timely}
use Rattle.phases.proofs.Joining.{join_is_joined}
use Rattle.phases.proofs.Joined.{is_cut}

pub programs_are_well_formed : ProgramsAreWellFormed
programs_are_well_formed l p is = record { rank_order = is.rank_order; in_range = is.in_range; waits = is.waits; waits_later = is.waits_later; probes = is.probes }

pub leaves_nothing_is_balanced : LeavesNothingIsBalanced
leaves_nothing_is_balanced p following even rank communicator finder = even rank communicator

policy_of_all : (p : MpiProgram) (others : List MpiProgram) → (join_all p others).policy ≡ p.policy
policy_of_all p [] = refl
policy_of_all p (q ∷ others) = refl

ranks_of_all : (p : MpiProgram) (others : List MpiProgram) → (join_all p others).ranks ≡ p.ranks
ranks_of_all p [] = refl
ranks_of_all p (q ∷ others) = refl

-- a condition that keeps what comes too early off
abbrev KeepsInTime : (MpiProgram → MpiProgram → Type 0) → Type 0
KeepsInTime Holds =
    (p following : MpiProgram) → IsWellFormed (join p following) → IsCutInTwo (join p following) (cut_between p following) → Holds p following → FollowsInTime p following

well_formed : (Holds : MpiProgram → MpiProgram → Type 0) (p : MpiProgram) (others : List MpiProgram) → ArePhases Holds p others → IsWellFormed (join_all p others)
well_formed Holds p [] phases = phases.well_formed
well_formed Holds p (q ∷ others) phases =
    (join_is_joined p (join_all q others) phases.0.well_formed (well_formed Holds q others phases.4) (policy_of_all q others ∙ phases.1.policy) (ranks_of_all q others ∙ phases.1.ranks)).1

never_stuck : (Holds : MpiProgram → MpiProgram → Type 0) → KeepsInTime Holds → (p : MpiProgram) (others : List MpiProgram) → ArePhases Holds p others → NoStuckRun (join_all p others)
never_stuck Holds keeps p [] phases = phases.never
never_stuck Holds keeps p (q ∷ others) phases =
    let rest = join_all q others in
    let one = phases.0.well_formed in
    let two = well_formed Holds q others phases.4 in
    let j = join_is_joined p rest one two (policy_of_all q others ∙ phases.1.policy) (ranks_of_all q others ∙ phases.1.ranks) in
    let x = cut_between p rest in
    let cut = is_cut (join p rest) p rest (j.1).rank_order one two j.0 in
    let clean = balanced_is_clean (join p rest) x j.1 one two cut phases.2 (keeps p rest j.1 cut phases.3) phases.0.never in
    whole_is_never_stuck (join p rest) x one two cut clean phases.0.never (never_stuck Holds keeps q others phases.4)

pub timely_phases_are_never_stuck : TimelyPhasesAreNeverStuck
timely_phases_are_never_stuck = never_stuck FollowsInTime (λ p following whole cut timely. timely)

pub named_phases_are_never_stuck : NamedPhasesAreNeverStuck
named_phases_are_never_stuck = never_stuck IsNamedBefore (λ p following whole cut names. named_is_timely (join p following) (cut_between p following) cut names)

pub ordered_phases_are_never_stuck : OrderedPhasesAreNeverStuck
ordered_phases_are_never_stuck = never_stuck IsOrderedBefore (λ p following whole cut ordered. ordered_is_timely (join p following) (cut_between p following) whole ordered)
