-- Dealing a program's calls to phases, in their order, and what is left of it behind them.
use Rattle.std.specs.Prelude.{◌≡◌, ℕ, ◌+◌, ◌<◌, List, [], ◌∷◌, length, take, slice_get, Some, None}
use Rattle.calltext.specs.Grammar.{long}
use Rattle.callorder.specs.Programs.{MpiProgram}
use Rattle.callorder.specs.Resolving.{IsTextOfWithin}
use Rattle.phases.specs.Conditions.{LeavesNothing}
use Rattle.phases.specs.Rests.{IsFront, behind, IsRest}
use Rattle.deciding.specs.Decisions.{IsUndecided}
use Rattle.deciding.specs.declared.texts.Undecided.TheVariants as undecided
use Rattle.sealing.specs.declared.loose.Loose.{Loose}
use Rattle.sealing.specs.Sealing.{IsLoose, IsLooseSend}
use Rattle.phase_checker.specs.declared.phase.Phase.{Phase}
use Rattle.phase_checker.specs.declared.reason.NotJoined.{NotJoined}
use Rattle.phase_checker.specs.declared.reason.NotJoined.TheVariants as joins

-- ---- phases that are dealt

-- The phase of this number is in front of the first program, and the second is left behind it.
pub record IsPhaseTaken (phases : List Phase) (number : ℕ) (p q : MpiProgram) : Type 0 where
  pub phase : Phase
  pub there : slice_get phases number ≡ Some phase
  pub front : IsFront p phase.program
  pub left : q ≡ behind p phase.program

-- The phases of these numbers are taken off the first program, each off what those before it
-- leave, and the second program is what all leave.
abbrev pub Dealt : List Phase → MpiProgram → List ℕ → MpiProgram → Type 0
Dealt phases p [] q = p ≡ q
Dealt phases p (number ∷ order) q = (rest : MpiProgram) × IsPhaseTaken phases number p rest × Dealt phases rest order q

-- this phase is the one at the place of the order
pub record IsAt (phases : List Phase) (order : List ℕ) (place : ℕ) (phase : Phase) : Type 0 where
  pub number : ℕ
  pub entry : slice_get order place ≡ Some number
  pub there : slice_get phases number ≡ Some phase

-- A later phase may send too early for the one at this place: it has a send that would fit a finder
-- of any source there, and nothing tells that the finder has found where the send's rank has
-- finished that phase.
pub record IsEarly (phases : List Phase) (order : List ℕ) (place : ℕ) (phase : Phase) : Type 0 where
  pub entry : Loose
  pub loose : IsLoose phase.program entry
  pub later : ℕ
  pub behind : place < later
  pub other : Phase
  pub is : IsAt phases order later other
  pub sends : IsLooseSend entry other.program

-- The phase at the place keeps to itself: it finds no message of a later one, and leaves none to
-- it.
pub record KeepsToItself (phases : List Phase) (order : List ℕ) (place : ℕ) (phase : Phase) : Type 0 where
  pub late : IsEarly phases order place phase → ⊥
  pub even : LeavesNothing phase.program

-- The phases before this place of the order are dealt, this is left of the program, and each of
-- them keeps to itself unless it is the last of the order.
pub record ComesTo (phases : List Phase) (order : List ℕ) (place : ℕ) (p q : MpiProgram) : Type 0 where
  pub dealt : Dealt phases p (take place order) q
  pub keep : (at : ℕ) (phase : Phase) → at < place → at + 1 < length order → IsAt phases order at phase → KeepsToItself phases order at phase

-- ---- what is told of them

-- The bytes are, within the long limits, the text of a program that the phases make up in this
-- order: all are dealt, and no call is left.
pub record AreJoined (text : List ℕ) (phases : List Phase) (order : List ℕ) : Type 0 where
  pub p : MpiProgram
  pub left : MpiProgram
  pub is_text : IsTextOfWithin long text p
  pub all : ComesTo phases order (length order) p left
  pub nothing : left.calls ≡ []

-- the phase at this place of the order is in front of the program
pub record IsPhaseInFront (phases : List Phase) (order : List ℕ) (place : ℕ) (q : MpiProgram) (phase : Phase) : Type 0 where
  pub is : IsAt phases order place phase
  pub front : IsFront q phase.program

-- What is wrong at a place of the order, where this is left of the program: no phase has the
-- number; the phase isn't in front; it is, but a later one may send too early for it; none may, but
-- others follow, and it leaves something. And behind the last place: calls are left.
abbrev pub IsWrongAtPlace : List Phase → List ℕ → ℕ → MpiProgram → NotJoined → Type 0
IsWrongAtPlace phases order place q (joins.NoPhase at) = (at ≡ place) × (number : ℕ) × (slice_get order place ≡ Some number) × (slice_get phases number ≡ None)
IsWrongAtPlace phases order place q (joins.Other at) = (at ≡ place) × (phase : Phase) × IsAt phases order place phase × (IsFront q phase.program → ⊥)
IsWrongAtPlace phases order place q (joins.Source at) = (at ≡ place) × (phase : Phase) × IsPhaseInFront phases order place q phase × IsEarly phases order place phase
IsWrongAtPlace phases order place q (joins.Uneven at) = (at ≡ place) × (place + 1 < length order) × (phase : Phase) × IsPhaseInFront phases order place q phase × (IsEarly phases order place phase → ⊥) × (LeavesNothing phase.program → ⊥)
IsWrongAtPlace phases order place q joins.Left = (place ≡ length order) × (q.calls ≡ [] → ⊥)
IsWrongAtPlace phases order place q why = ⊥

-- The bytes are the text of a program, within the long limits; the phases before some place of the
-- order are dealt, as they have to be, and this is wrong there.
pub record HasJoinFault (text : List ℕ) (phases : List Phase) (order : List ℕ) (why : NotJoined) : Type 0 where
  pub p : MpiProgram
  pub q : MpiProgram
  pub place : ℕ
  pub is_text : IsTextOfWithin long text p
  pub before : ComesTo phases order place p q
  pub wrong : IsWrongAtPlace phases order place q why

-- Why phases don't show that no run of a text's program gets stuck: it is none of a program; or
-- the first thing that is wrong. Want of memory may be told of any.
abbrev pub IsNotJoined : List ℕ → List Phase → List ℕ → NotJoined → Type 0
IsNotJoined text phases order joins.Memory = Unit {0}
IsNotJoined text phases order (joins.Read fault) = IsUndecided text (undecided.Read fault)
IsNotJoined text phases order (joins.Resolve fault) = IsUndecided text (undecided.Resolve fault)
IsNotJoined text phases order why = HasJoinFault text phases order why

-- something is left of the program from these places on
abbrev pub IsSomeRest : MpiProgram → List ℕ → Type 0
IsSomeRest p next = (q : MpiProgram) × IsRest p next q
