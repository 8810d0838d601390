-- What a run that buffers all it may tells of all runs.
use Rattle.std.proofs.Common.{◌≡◌, ℕ, ◌<◌, false, List, sym, subst}
use Rattle.calltext.specs.Grammar.{long}
use Rattle.callorder.specs.ProgramRules.{IsProgramWithin}
use Rattle.callorder.specs.Programs.{MpiProgram}
use Rattle.semantics.specs.declared.state.Step.{Step}
use Rattle.semantics.specs.Configurations.{IsConfigurationOf}
use Rattle.semantics.specs.Machine.{Configuration, opening, after_all, is_rank_finished, IsStuckRun}
use Rattle.races.specs.Races.{NamesSources}
use Rattle.races.proofs.Telling.{programs_are_in_order}
use Rattle.races.proofs.Passing.{kept_run}
use Rattle.run_laws.specs.Laws.{IsInRankOrder}
use Rattle.always.specs.Always.{SticksInEveryRun}
use Rattle.always.proofs.Blocks.{table_of_blocks_sticks_always}
use Rattle.always.proofs.Ordered.{named_sources_stick_always}
use Rattle.always.proofs.Ending.{each_run_ends}
use Rattle.leastrun.specs.LeastBuffered.{IsMostBufferedRun}
use Rattle.clocks.specs.Clocks.{HasNoRaceShown}
use Rattle.clocks.proofs.Members.{spans_are_blocks}
use Rattle.clocks.proofs.Shown.{shows}
use Rattle.frequency.specs.Frequencies.{EachRunSticks}

pub sticks : (p : MpiProgram) (steps : List Step) (m : Configuration) (rank : ℕ) → IsMostBufferedRun p steps → m ≡ after_all (opening p) steps → (rank < p.ranks) × (is_rank_finished p m rank ≡ false) → IsStuckRun p steps
sticks p steps m rank most end unfinished =
    record {
      run = most.run;
      stuck = record {
        rank = rank;
        in_range = unfinished.0;
        unfinished = subst (λ (z : Configuration). is_rank_finished p z rank ≡ false) end unfinished.1;
        none_enabled = most.ended;
      };
    }

each_of : (p : MpiProgram) (steps : List Step) → IsInRankOrder p → SticksInEveryRun p steps → EachRunSticks p
each_of p steps order all =
    record {
      never_finishes = all.never_finishes;
      always_sticks = all.always_sticks;
      ends = λ other run. each_run_ends p other order run;
    }

pub each_sticks : (p : MpiProgram) (steps : List Step) (m : Configuration) (rank : ℕ) → IsProgramWithin long p → IsMostBufferedRun p steps → m ≡ after_all (opening p) steps → (rank < p.ranks) × (is_rank_finished p m rank ≡ false) → NamesSources p → EachRunSticks p
each_sticks p steps m rank is most end unfinished named =
    let order = (programs_are_in_order long p is).0 in
    each_of p steps order (named_sources_stick_always p steps order named (sticks p steps m rank most end unfinished) most.choice)

pub configuration : (p : MpiProgram) (steps : List Step) (m : Configuration) → IsProgramWithin long p → IsMostBufferedRun p steps → m ≡ after_all (opening p) steps → IsConfigurationOf p m
configuration p steps m is most end = subst (IsConfigurationOf p) (sym end) (kept_run p steps (programs_are_in_order long p is).0 most.run).size

-- where no race is shown in the stuck run, no run has more, up to which finder of a block has what
pub each_sticks_if_shown : (p : MpiProgram) (steps : List Step) (m : Configuration) (rank : ℕ) → IsProgramWithin long p → IsMostBufferedRun p steps → m ≡ after_all (opening p) steps → (rank < p.ranks) × (is_rank_finished p m rank ≡ false) → HasNoRaceShown p m → EachRunSticks p
each_sticks_if_shown p steps m rank is most end unfinished w =
    let e = after_all (opening p) steps in
    let shown : HasNoRaceShown p e = subst (HasNoRaceShown p) end w in
    let order = (programs_are_in_order long p is).0 in
    each_of p steps order
    (table_of_blocks_sticks_always p steps shown.block shown.sure shown.knows order (sticks p steps m rank most end unfinished) most.choice
    (spans_are_blocks p shown.block shown.spans) shown.is_sure shown.justified (shows p shown.block e shown.knows shown.shows))
