-- What holds of each decision.
use Rattle.std.specs.Prelude.{ℕ, IsTrue, List}
use Rattle.calltext.specs.Grammar.{long, short}
use Rattle.callorder.specs.Programs.{MpiProgram, are_fit, are_of_one_rank}
use Rattle.callorder.specs.Resolving.{IsTextOf, IsTextOfWithin}
use Rattle.semantics.specs.declared.state.Step.{Step}
use Rattle.semantics.specs.Headline.{IsNeverStuckWithin, IsStuckRunWithin}
use Rattle.semantics.specs.RunEnds.{IsFinishedRun}
use Rattle.semantics.specs.Machine.{Configuration, after_all, opening, IsStuckRun}
use Rattle.races.specs.Races.{BuffersNoneByChoice, NamesSources}
use Rattle.races.specs.Tells.{Table, IsJustified, ShowsNoRace}
use Rattle.deciding.specs.Decisions.{Decides}
use Rattle.deciding.specs.declared.decision.Decision.TheVariants as decisions
use Rattle.deciding.specs.declared.decision.CallerRace.{CallerRace}

-- where each receive, matched probe and probe of the program names its source, it is never a race
-- that is decided
abbrev pub NamedSourcesAreDecided : Type 0
NamedSourcesAreDecided =
    (program : List ℕ) (race : CallerRace) (p : MpiProgram) → Decides program (decisions.Race race) → IsTextOfWithin long program p → NamesSources p → ⊥

-- any two sends that fit one receive, matched probe or probe are of one rank
abbrev pub HasLoneSenders : MpiProgram → Type 0
HasLoneSenders p = (finder one other : ℕ) → IsTrue (are_fit p one finder) → IsTrue (are_fit p other finder) → IsTrue (are_of_one_rank p one other)

-- where the sends that fit each receive, matched probe and probe of the program are of one rank, it
-- is never a race that is decided
abbrev pub LoneSendersAreDecided : Type 0
LoneSendersAreDecided =
    (program : List ℕ) (race : CallerRace) (p : MpiProgram) → Decides program (decisions.Race race) → IsTextOfWithin long program p → HasLoneSenders p → ⊥

-- a table whose entries are all justified shows that no send races for a finder of this
-- configuration
pub record HasTable (p : MpiProgram) (e : Configuration) : Type 0 where
  pub knows : Table
  pub justified : IsJustified p e knows
  pub shows : ShowsNoRace p e knows

-- where there is such a table for the end of each run that finishes, and buffers a send only where
-- the policy has each one buffered, it is never a race that is decided
abbrev pub JustifiedRunsAreDecided : Type 0
JustifiedRunsAreDecided =
    (program : List ℕ) (race : CallerRace) (p : MpiProgram) → Decides program (decisions.Race race) → IsTextOfWithin long program p
    → ((run : List Step) → IsFinishedRun p run → BuffersNoneByChoice p run → HasTable p (after_all (opening p) run)) → ⊥

-- what is decided of a text within the short limits is true of the program that it is within these
pub record ShortTextsAreDecided : Type 0 where
  pub never : (program : List ℕ) (p : MpiProgram) → IsTextOf program p → IsNeverStuckWithin long program → IsNeverStuckWithin short program
  pub stuck : (program : List ℕ) (p : MpiProgram) (steps : List Step) → IsTextOf program p → IsStuckRunWithin long program steps → IsStuckRun p steps
