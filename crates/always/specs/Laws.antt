-- One run that buffers all it may, and ends, shows whether each run gets stuck, where the program's
-- messages don't race.
use Rattle.std.specs.Prelude.{◌≡◌, ℕ, ◌⊎◌, false, List, ◌++◌}
use Rattle.calltext.specs.declared.call.Policy.TheVariants.{Any}
use Rattle.callorder.specs.Programs.{MpiProgram}
use Rattle.semantics.specs.declared.state.Step.{Step}
use Rattle.semantics.specs.RunEnds.{IsFinishedRun}
use Rattle.semantics.specs.Machine.{Configuration, opening, after_all, is_rank_finished, IsRun, IsStuckRun}
use Rattle.run_laws.specs.Laws.{IsInRankOrder}
use Rattle.races.specs.Races.{StartsAreWaitedFor, BuffersNoneByChoice, NamesSources, IsTheOneWay}
use Rattle.races.specs.Blocks.{Blocks, AreBlocks, IsSure, HasNoRaceOfBlocks}
use Rattle.races.specs.Tells.{Table, IsJustified}
use Rattle.always.specs.Always.{IsEndedRun, BuffersAllItMay, IsTheGreatest, IsNeverFinished, SticksInEveryRun, HasFrequency, IsWithinBlocks, HasNoRaceBefore, ShowsNoRaceBefore, ShowsNoRaceOfBlocksBefore}

-- Each run can be gone on with until nothing can follow. So, where each run that nothing can follow
-- is stuck, each run gets stuck however it goes on.
abbrev pub EachRunEnds : Type 0
EachRunEnds = (p : MpiProgram) (steps : List Step) → IsInRankOrder p → IsRun p (opening p) steps → (more : List Step) × IsEndedRun p (steps ++ more)

-- ---- the greatest run

-- Where a run that buffers all it may can't go on, and no run matches or sees anything else, it is
-- the greatest.
abbrev pub OneWayIsGreatest : Type 0
OneWayIsGreatest =
    (p : MpiProgram) (steps : List Step) → IsInRankOrder p → IsEndedRun p steps → BuffersAllItMay p steps → IsTheOneWay p steps → IsTheGreatest p steps

-- A rank that the greatest run doesn't finish is finished by none.
abbrev pub UnfinishedInEveryRun : Type 0
UnfinishedInEveryRun =
    (p : MpiProgram) (steps : List Step) (rank : ℕ) → IsInRankOrder p → IsRun p (opening p) steps → IsTheGreatest p steps
    → is_rank_finished p (after_all (opening p) steps) rank ≡ false → IsNeverFinished p rank

-- Where the greatest run is stuck, each run gets stuck.
abbrev pub GreatestSticksAlways : Type 0
GreatestSticksAlways = (p : MpiProgram) (steps : List Step) → IsInRankOrder p → IsStuckRun p steps → IsTheGreatest p steps → SticksInEveryRun p steps

-- Where a run that buffers all it may is stuck, and no run matches or sees anything else, each run
-- gets stuck.
abbrev pub OneWaySticksAlways : Type 0
OneWaySticksAlways =
    (p : MpiProgram) (steps : List Step) → IsInRankOrder p → IsStuckRun p steps → BuffersAllItMay p steps → IsTheOneWay p steps → SticksInEveryRun p steps

-- ---- where no send races

-- Where no send races for a finder that has found one, a run that buffers all it may and can't go
-- on is the greatest.
abbrev pub OrderedIsGreatest : Type 0
OrderedIsGreatest =
    (p : MpiProgram) (steps : List Step) → IsInRankOrder p → IsEndedRun p steps → BuffersAllItMay p steps
    → HasNoRaceBefore p (after_all (opening p) steps) → IsTheGreatest p steps

-- Where no send races for a finder that has found one in a stuck run that buffers all it may, each
-- run gets stuck.
abbrev pub OrderedSticksAlways : Type 0
OrderedSticksAlways =
    (p : MpiProgram) (steps : List Step) → IsInRankOrder p → IsStuckRun p steps → BuffersAllItMay p steps
    → HasNoRaceBefore p (after_all (opening p) steps) → SticksInEveryRun p steps

-- The same by a table, each entry of which follows from others.
abbrev pub TableIsGreatest : Type 0
TableIsGreatest =
    (p : MpiProgram) (steps : List Step) (knows : Table) → IsInRankOrder p → IsEndedRun p steps → BuffersAllItMay p steps
    → IsJustified p (after_all (opening p) steps) knows → ShowsNoRaceBefore p (after_all (opening p) steps) knows → IsTheGreatest p steps

abbrev pub TableSticksAlways : Type 0
TableSticksAlways =
    (p : MpiProgram) (steps : List Step) (knows : Table) → IsInRankOrder p → IsStuckRun p steps → BuffersAllItMay p steps
    → IsJustified p (after_all (opening p) steps) knows → ShowsNoRaceBefore p (after_all (opening p) steps) knows → SticksInEveryRun p steps

-- ---- where finders of a block may stand for one another

-- Where no send of another block races for a finder that has found one, each run is within the
-- blocks of a run that buffers all it may and can't go on.
abbrev pub BlocksAreGreatest : Type 0
BlocksAreGreatest =
    (p : MpiProgram) (steps : List Step) (block : Blocks) → IsInRankOrder p → IsEndedRun p steps → BuffersAllItMay p steps → AreBlocks p block
    → HasNoRaceOfBlocks p block (after_all (opening p) steps) → (other : List Step) → IsRun p (opening p) other
    → IsWithinBlocks p block (after_all (opening p) other) (after_all (opening p) steps)

-- Where besides that run is stuck, each run gets stuck.
abbrev pub BlocksStickAlways : Type 0
BlocksStickAlways =
    (p : MpiProgram) (steps : List Step) (block : Blocks) → IsInRankOrder p → IsStuckRun p steps → BuffersAllItMay p steps → AreBlocks p block
    → HasNoRaceOfBlocks p block (after_all (opening p) steps) → SticksInEveryRun p steps

-- The same by a table, each entry of which follows from others by the partners that are sure.
abbrev pub TableOfBlocksIsGreatest : Type 0
TableOfBlocksIsGreatest =
    (p : MpiProgram) (steps : List Step) (block : Blocks) (sure : Configuration) (knows : Table) → IsInRankOrder p → IsEndedRun p steps → BuffersAllItMay p steps
    → AreBlocks p block → IsSure p block (after_all (opening p) steps) sure → IsJustified p sure knows
    → ShowsNoRaceOfBlocksBefore p block (after_all (opening p) steps) knows → (other : List Step) → IsRun p (opening p) other
    → IsWithinBlocks p block (after_all (opening p) other) (after_all (opening p) steps)

abbrev pub TableOfBlocksSticksAlways : Type 0
TableOfBlocksSticksAlways =
    (p : MpiProgram) (steps : List Step) (block : Blocks) (sure : Configuration) (knows : Table) → IsInRankOrder p → IsStuckRun p steps → BuffersAllItMay p steps
    → AreBlocks p block → IsSure p block (after_all (opening p) steps) sure → IsJustified p sure knows
    → ShowsNoRaceOfBlocksBefore p block (after_all (opening p) steps) knows → SticksInEveryRun p steps

-- ---- where each finder names its source

-- Where each finder names its source, a run that buffers all it may and can't go on is the
-- greatest.
abbrev pub NamedSourcesAreGreatest : Type 0
NamedSourcesAreGreatest =
    (p : MpiProgram) (steps : List Step) → IsInRankOrder p → NamesSources p → IsEndedRun p steps → BuffersAllItMay p steps → IsTheGreatest p steps

-- Where besides that run is stuck, each run gets stuck.
abbrev pub NamedSourcesStickAlways : Type 0
NamedSourcesStickAlways =
    (p : MpiProgram) (steps : List Step) → IsInRankOrder p → NamesSources p → IsStuckRun p steps → BuffersAllItMay p steps → SticksInEveryRun p steps

-- Where each finder names its source, some run is stuck and another one finishes, a send is
-- buffered in one of them by choice: the policy is `any`. So under the other two policies a
-- deadlock comes in every run or in none.
abbrev pub OnlyChoiceMixes : Type 0
OnlyChoiceMixes =
    (p : MpiProgram) (stuck finished : List Step) → IsInRankOrder p → NamesSources p → IsStuckRun p stuck → IsFinishedRun p finished → p.policy ≡ Any

-- Where each finder names its source, two runs decide: one that buffers no send by choice, and one
-- that buffers all it may.
abbrev pub TwoRunsDecide : Type 0
TwoRunsDecide =
    (p : MpiProgram) (least most : List Step) → IsInRankOrder p → StartsAreWaitedFor p → NamesSources p → BuffersNoneByChoice p least → BuffersAllItMay p most
    → IsFinishedRun p least ⊎ IsStuckRun p least → IsFinishedRun p most ⊎ IsStuckRun p most → HasFrequency p
