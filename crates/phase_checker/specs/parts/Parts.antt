-- One phase of the order, and all of them.
use Rattle.std.specs.Prelude.{◌≡◌, ℕ, ◌+◌, ◌<◌, List, [], length, Option, Some, None}
use Rattle.callorder.specs.Programs.{MpiProgram}
use Rattle.phases.specs.Conditions.{LeavesNothing}
use Rattle.phases.specs.Rests.{IsFront, IsRest, behind}
use Rattle.phase_checker.specs.declared.phase.Phase.{Phase}
use Rattle.phase_checker.specs.declared.reason.NotJoined.{NotJoined}
use Rattle.phase_checker.specs.declared.reason.NotJoined.TheVariants as joins
use Rattle.phase_checker.specs.Dealing.{ComesTo, IsAt, IsEarly, IsWrongAtPlace, KeepsToItself}

-- the first place of the order for whose phase a later one may send too early, if there is one
abbrev pub IsFirstEarly : List Phase → List ℕ → Option ℕ → Type 0
IsFirstEarly phases order None = (place : ℕ) (phase : Phase) → IsAt phases order place phase → IsEarly phases order place phase → ⊥
IsFirstEarly phases order (Some at) =
    ((phase : Phase) × IsAt phases order at phase × IsEarly phases order at phase)
    × ((place : ℕ) (phase : Phase) → place < at → IsAt phases order place phase → IsEarly phases order place phase → ⊥)

-- why the phase at this place doesn't keep to itself
abbrev pub IsUnkept : List Phase → List ℕ → ℕ → Phase → NotJoined → Type 0
IsUnkept phases order place phase (joins.Source at) = (at ≡ place) × IsEarly phases order place phase
IsUnkept phases order place phase (joins.Uneven at) = (at ≡ place) × (IsEarly phases order place phase → ⊥) × (LeavesNothing phase.program → ⊥)
IsUnkept phases order place phase why = ⊥

-- The phase at this place of the order is in front of what is left of a program, what is left
-- behind it is what the program has from these places on, and it keeps to itself unless it is the
-- last of the order.
pub record IsDealtAt (phases : List Phase) (order : List ℕ) (place : ℕ) (p q : MpiProgram) (next : List ℕ) : Type 0 where
  pub phase : Phase
  pub is : IsAt phases order place phase
  pub front : IsFront q phase.program
  pub rest : IsRest p next (behind q phase.program)
  pub keeps : place + 1 < length order → KeepsToItself phases order place phase

-- the phases make up the program in this order
pub record MakeUp (phases : List Phase) (order : List ℕ) (p : MpiProgram) : Type 0 where
  pub left : MpiProgram
  pub all : ComesTo phases order (length order) p left
  pub nothing : left.calls ≡ []

-- the first thing that is wrong with the phases and the order, for this program
pub record IsFirstWrong (phases : List Phase) (order : List ℕ) (p : MpiProgram) (why : NotJoined) : Type 0 where
  pub q : MpiProgram
  pub place : ℕ
  pub before : ComesTo phases order place p q
  pub wrong : IsWrongAtPlace phases order place q why
