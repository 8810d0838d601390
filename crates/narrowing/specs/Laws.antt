-- What follows where no run of the other ways of a choice ends stuck.
use Rattle.std.specs.Prelude.{◌≡◌, ℕ, Bool, true, false, IsTrue, List, [], Some, All}
use Rattle.calltext.specs.declared.call.Policy.TheVariants.{Any}
use Rattle.calltext.specs.declared.call.Mode.TheVariants.{Standard}
use Rattle.callorder.specs.declared.calls.Kind.TheVariants.{Send}
use Rattle.callorder.specs.declared.calls.Message.{Message}
use Rattle.callorder.specs.ProgramRules.{IsProgram}
use Rattle.callorder.specs.Programs.{MpiProgram, call_at}
use Rattle.semantics.specs.Machine.{Configuration, IsStuckRun, opening, after_all, is_issued, is_buffered, partner_of}
use Rattle.semantics.specs.declared.state.Step.{Step}
use Rattle.narrowing.specs.Narrowed.{IsNarrowed}
use Rattle.narrowing.specs.Ways.{AreOtherWays, way_to}
use Rattle.narrowing.specs.declared.taken.ChoiceTaken.{ChoiceTaken}
use Rattle.narrowing.specs.declared.taken.ChoiceTaken.TheVariants as taken

-- with the choice made so, no run ends stuck
pub record NeverStuckSo (p : MpiProgram) (call : ℕ) (way : ChoiceTaken) : Type 0 where
  pub narrowed : MpiProgram
  pub is : IsNarrowed p call way narrowed
  pub never : (steps : List Step) → IsStuckRun narrowed steps → ⊥

-- the call is a standard send, which the policy leaves open
pub record IsOpenSend (p : MpiProgram) (call : ℕ) : Type 0 where
  pub policy : p.policy ≡ Any
  pub rank : ℕ
  pub blocking : Bool
  pub message : Message
  pub there : call_at p call ≡ Some (record { rank = rank; kind = Send Standard blocking message })

-- The call leaves open whether it is buffered; of a call that finds messages nothing is asked,
-- since what fits it is asked of its other ways.
abbrev pub LeavesOpen : MpiProgram → ℕ → ChoiceTaken → Type 0
LeavesOpen p call taken.Buffered = IsOpenSend p call
LeavesOpen p call taken.NotBuffered = IsOpenSend p call
LeavesOpen p call (taken.Message source tag) = Unit {0}

-- the call found a message of that rank with that tag
pub record HasFound (p : MpiProgram) (m : Configuration) (call : ℕ) (way : ChoiceTaken) : Type 0 where
  pub send : ℕ
  pub found : partner_of m call ≡ Some send
  pub is : way_to p send ≡ Some way

-- where a run has come so far, the choice was made so
abbrev pub IsTakenSo : MpiProgram → Configuration → ℕ → ChoiceTaken → Type 0
IsTakenSo p m call taken.Buffered = IsTrue (is_issued p m call) × (is_buffered m call ≡ true)
IsTakenSo p m call taken.NotBuffered = IsTrue (is_issued p m call) × (is_buffered m call ≡ false)
IsTakenSo p m call (taken.Message source tag) = HasFound p m call (taken.Message source tag)

-- Where a choice has other ways, and with each of them no run ends stuck, it was made so in each
-- run that does.
abbrev pub TakenWhereNeverOtherwise : Type 0
TakenWhereNeverOtherwise =
    (p : MpiProgram) (call : ℕ) (way : ChoiceTaken) (others : List ChoiceTaken) (steps : List Step) → IsProgram p → LeavesOpen p call way → AreOtherWays p call way others
    → (others ≡ [] → ⊥) → All (λ other. NeverStuckSo p call other) others → IsStuckRun p steps → IsTakenSo p (after_all (opening p) steps) call way
