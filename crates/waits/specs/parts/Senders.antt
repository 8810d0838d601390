-- For each rank the ranks that have sends to it which aren't issued, in rising order.
use Rattle.std.specs.Prelude.{◌≡◌, ℕ, ◌-◌, ◌<◌, ◌≤◌, ◌⊎◌, ◌++◌, ◌∷◌, [], false, List, Option, Some, None, length, slice_get}
use Rattle.std.specs.Global.{Vec}
use Rattle.callorder.specs.declared.calls.Call.{Call}
use Rattle.callorder.specs.declared.calls.Message.{Message}
use Rattle.callorder.specs.Calls.{message_of}
use Rattle.callorder.specs.Programs.{MpiProgram, call_at}
use Rattle.semantics.specs.Machine.{Configuration, is_issued}
use Rattle.waits.specs.Cycles.{awaited_by}

-- the list of the call's rank, and none where there is no call
abbrev pub senders_at : List (Vec ℕ) → Option Call → List ℕ
senders_at lists None = []
senders_at lists (Some call) = awaited_by lists call.rank

-- one of the first n calls is a send from the one rank to the other, and is not issued
pub record IsComing (p : MpiProgram) (m : Configuration) (n to from : ℕ) : Type 0 where
  pub call : ℕ
  pub below : call < n
  pub known : Call
  pub there : call_at p call ≡ Some known
  pub own : known.rank ≡ from
  pub message : Message
  pub sends : message_of known.kind ≡ Some message
  pub goes : message.destination ≡ to
  pub not_issued : is_issued p m call ≡ false

-- the list has it
pub record IsListed (xs : List ℕ) (x : ℕ) : Type 0 where
  pub place : ℕ
  pub there : slice_get xs place ≡ Some x

abbrev pub IsRising : List ℕ → Type 0
IsRising xs = (i j x y : ℕ) → i < j → slice_get xs i ≡ Some x → slice_get xs j ≡ Some y → x < y

-- the rank stands behind the others, of which it isn't the last one
pub record IsPushed (old : List ℕ) (rank : ℕ) (new : List ℕ) : Type 0 where
  pub grows : new ≡ old ++ rank ∷ []
  pub other : (x : ℕ) → slice_get old (length old - 1) ≡ Some x → x ≡ rank → ⊥

-- the list is as it was and has the rank, or has it behind the others
abbrev pub IsAdded : List ℕ → ℕ → List ℕ → Type 0
IsAdded old rank new = ((new ≡ old) × IsListed old rank) ⊎ IsPushed old rank new

-- so of one of the lists, if there is such a one, and all others are as before
pub record IsAddedAt (old : List (Vec ℕ)) (to rank : ℕ) (new : List (Vec ℕ)) : Type 0 where
  pub size : length new ≡ length old
  pub there : to < length old → IsAdded (awaited_by old to) rank (awaited_by new to)
  pub others : (e : ℕ) → (e ≡ to → ⊥) → awaited_by new e ≡ awaited_by old e

-- there are so many lists, and each is empty
pub record AreEmpty (n : ℕ) (lists : List (Vec ℕ)) : Type 0 where
  pub size : length lists ≡ n
  pub empty : (e : ℕ) → awaited_by lists e ≡ []

-- each list has the ranks that have such sends among the first n calls, and none that is above the
-- rank of a later call
pub record AreSendersBelow (p : MpiProgram) (m : Configuration) (n : ℕ) (lists : List (Vec ℕ)) : Type 0 where
  pub size : length lists ≡ p.ranks
  pub all : (to from : ℕ) → to < p.ranks → IsComing p m n to from → IsListed (awaited_by lists to) from
  pub rising : (to : ℕ) → IsRising (awaited_by lists to)
  pub upto : (to place x c : ℕ) (call : Call) → slice_get (awaited_by lists to) place ≡ Some x → n ≤ c → call_at p c ≡ Some call → x ≤ call.rank

pub record AreSenders (p : MpiProgram) (m : Configuration) (lists : List (Vec ℕ)) : Type 0 where
  pub calls : ℕ
  pub all : length p.calls ≤ calls
  pub are : AreSendersBelow p m calls lists
