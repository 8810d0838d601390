-- What is known of a choice.
use Rattle.std.specs.Prelude.{◌≡◌, ℕ, List, [], IsTrue, All}
use Rattle.callorder.specs.Programs.{MpiProgram, call_at, is_of_rank}
use Rattle.callorder.specs.Resolving.{IsTextOf}
use Rattle.semantics.specs.declared.state.Step.{Step}
use Rattle.semantics.specs.Machine.{IsStuckRun, opening, after_all}
use Rattle.narrowing.specs.declared.taken.ChoiceTaken.{ChoiceTaken}
use Rattle.narrowing.specs.Ways.{AreOtherWays}
use Rattle.narrowing.specs.Narrowed.{IsNarrowed}
use Rattle.narrowing.specs.Laws.{LeavesOpen, IsTakenSo}
use Rattle.checker.specs.Headline.{IsNeverStuck}
use Rattle.prover.specs.Answers.{CanHang}
use Rattle.choices.specs.Pins.{IsPinned}
use Rattle.choices.specs.declared.asking.Way.TheVariants as ways
use Rattle.choices.specs.declared.items.Choice.{Choice}
use Rattle.choices.specs.declared.items.ChoiceNeed.{ChoiceNeed}
use Rattle.choices.specs.declared.items.ChoiceNeed.TheVariants as needs
use Rattle.choices.specs.declared.items.Weighed.{Weighed}

-- The choice is one of the program: its rank is that of its call, which leaves it open, and its
-- other ways are all that there are.
pub record IsChoiceOf (p : MpiProgram) (choice : Choice) : Type 0 where
  pub rank : IsTrue (is_of_rank (call_at p choice.call) choice.rank)
  pub leaves : LeavesOpen p choice.call choice.taken
  pub ways : AreOtherWays p choice.call choice.taken choice.others.items

-- with other words in the place of the line of this number, which leave open no more than this, the
-- text is a program's that has a run that ends stuck
abbrev pub HangsWith : List ℕ → ℕ → ChoiceTaken → Type 0
HangsWith text number taken = (pinned : List ℕ) × IsPinned text number taken pinned × CanHang pinned

-- The text is that of the program in which this call leaves open no more than this way.
pub record IsNarrowedText (p : MpiProgram) (call : ℕ) (taken : ChoiceTaken) (text : List ℕ) : Type 0 where
  pub narrowed : MpiProgram
  pub is_text : IsTextOf text narrowed
  pub is_narrowed : IsNarrowed p call taken narrowed

-- With such words in the place of the line of this number the text is that of the program in which
-- this call leaves open no more than this way, and no run of it ends stuck.
pub record NeverWith (text : List ℕ) (number : ℕ) (p : MpiProgram) (call : ℕ) (taken : ChoiceTaken) : Type 0 where
  pub pinned : List ℕ
  pub is_pinned : IsPinned text number taken pinned
  pub is_narrowed : IsNarrowedText p call taken pinned
  pub never : IsNeverStuck pinned

-- in each of these ways no run ends stuck
abbrev pub AreNever : List ℕ → MpiProgram → Choice → List ChoiceTaken → Type 0
AreNever text p choice others = All (λ taken. NeverWith text choice.line p choice.call taken) others

-- there are other ways, and in none of them a run ends stuck
pub record NoneHangs (text : List ℕ) (p : MpiProgram) (choice : Choice) : Type 0 where
  pub some : choice.others.items ≡ [] → ⊥
  pub never : AreNever text p choice choice.others.items

-- a run of the program ends stuck in which this choice isn't made so
pub record HangsOtherwise (p : MpiProgram) (choice : Choice) : Type 0 where
  pub steps : List Step
  pub stuck : IsStuckRun p steps
  pub otherwise : IsTakenSo p (after_all (opening p) steps) choice.call choice.taken → ⊥

-- The choice is one of the text's program, with all of its other ways, of which there are some, and
-- in none of which a run ends stuck.
pub record IsKnownToBeNeeded (text : List ℕ) (choice : Choice) : Type 0 where
  pub p : MpiProgram
  pub is_text : IsTextOf text p
  pub is_choice : IsChoiceOf p choice
  pub none : NoneHangs text p choice

-- Where a choice was asked about, the program of the text whose line says what the run did has a
-- run that ends stuck. Where it is known to be needed, no run ends stuck where the line says any
-- other way, and the other ways are all that there are. Where it is told not to be needed, some run
-- of the text's own program ends stuck in which it isn't made so.
abbrev pub IsWeighed : List ℕ → Choice → ChoiceNeed → Type 0
IsWeighed text choice needs.Known = HangsWith text choice.line choice.taken × IsKnownToBeNeeded text choice
IsWeighed text choice needs.Tried = HangsWith text choice.line choice.taken
IsWeighed text choice needs.No = HangsWith text choice.line choice.taken × ((p : MpiProgram) × IsTextOf text p × HangsOtherwise p choice)
IsWeighed text choice needs.NotAsked = Unit {0}

-- all that is told of these choices holds
abbrev pub AreWeighed : List ℕ → List Weighed → Type 0
AreWeighed text choices = All (λ weighed. IsWeighed text weighed.choice weighed.need) choices

-- Each run of the text's program that ends stuck makes a choice that is known to be needed as it
-- was made: the send is issued and buffered, or not; or the call has found a message of that rank
-- with that tag.
abbrev pub KnownIsTaken : Type 0
KnownIsTaken =
    (text : List ℕ) (choice : Choice) (p : MpiProgram) (steps : List Step) → IsWeighed text choice needs.Known → IsTextOf text p → IsStuckRun p steps
    → IsTakenSo p (after_all (opening p) steps) choice.call choice.taken
