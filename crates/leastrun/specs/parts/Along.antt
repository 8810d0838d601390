-- A run on its way, and what it leaves open.
use Rattle.std.specs.Prelude.{◌≡◌, ℕ, ◌<◌, ◌≤◌, true, List, Some, slice_get}
use Rattle.callorder.specs.declared.calls.Call.{Call}
use Rattle.callorder.specs.Programs.{MpiProgram, call_at, are_fit}
use Rattle.semantics.specs.declared.state.Step.{Step}
use Rattle.semantics.specs.Configurations.{IsConfigurationOf, is_open_call}
use Rattle.semantics.specs.Machine.{Configuration, IsRun, opening, after_all}
use Rattle.leastrun.specs.declared.tables.Tables.{Tables}
use Rattle.leastrun.specs.parts.Queues.{IsGrown}
use Rattle.leastrun.specs.parts.Waiting.{IsSendIn, IsFinderIn}

-- the steps are a run from the opening configuration, and come to this one
pub record IsReached (p : MpiProgram) (steps : List Step) (m : Configuration) : Type 0 where
  pub of : IsConfigurationOf p m
  pub now : m ≡ after_all (opening p) steps
  pub run : IsRun p (opening p) steps

-- all open calls, rising, and no other
pub record AreOpenCalls (p : MpiProgram) (m : Configuration) (calls : List ℕ) : Type 0 where
  pub all : (c : ℕ) → is_open_call p m c ≡ true → (i : ℕ) × (slice_get calls i ≡ Some c)
  pub are : (i c : ℕ) → slice_get calls i ≡ Some c → is_open_call p m c ≡ true
  pub rise : (i j c d : ℕ) → i < j → slice_get calls i ≡ Some c → slice_get calls j ≡ Some d → c ≤ d

-- the call is no send that fits one of the calls
abbrev pub FitsNone : MpiProgram → ℕ → List ℕ → Type 0
FitsNone p send calls = (j finder : ℕ) → slice_get calls j ≡ Some finder → are_fit p send finder ≡ true → ⊥

-- none of the calls is a send that fits another one
abbrev pub AreApart : MpiProgram → List ℕ → Type 0
AreApart p calls = (i send : ℕ) → slice_get calls i ≡ Some send → FitsNone p send calls

-- the call stands in its rows too, and nothing else has come
pub record IsAddedTo (p : MpiProgram) (c : ℕ) (old new : Tables) : Type 0 where
  pub forms : new.forms.items ≡ old.forms.items
  pub sends : IsGrown old.sends new.sends c
  pub finders : IsGrown old.finders new.finders c
  pub sent : (call : Call) → call_at p c ≡ Some call → IsSendIn old.forms.items new.sends call c
  pub sought : (call : Call) → call_at p c ≡ Some call → IsFinderIn new.finders call c
