-- What waits: the open sends and finders in their rows, in the order in which they were issued.
use Rattle.std.specs.Prelude.{◌≡◌, ℕ, ◌<◌, ◌≤◌, ◌⊎◌, Bool, true, false, ◌&&◌, ◌||◌, IsTrue, List, Option, Some, None, slice_get, cond, nat_lt}
use Rattle.calltext.specs.declared.call.Policy.TheVariants.{Always}
use Rattle.callorder.specs.declared.calls.Call.{Call}
use Rattle.callorder.specs.Programs.{MpiProgram, call_at, are_fit, are_of_one_rank, is_probe}
use Rattle.semantics.specs.declared.state.Step.{Step}
use Rattle.semantics.specs.declared.state.Step.TheVariants.{Issue, Match, See}
use Rattle.semantics.specs.Configurations.{is_open_call}
use Rattle.semantics.specs.Machine.{Configuration, IsEnabled, is_issued, can_issue}
use Rattle.run_laws.specs.Laws.{IsOpenPair}
use Rattle.run_laws.specs.Places.{find_step}
use Rattle.leastrun.specs.declared.walk.Buffering.{Buffering}
use Rattle.leastrun.specs.declared.walk.Buffering.TheVariants.{Least, Most}
use Rattle.leastrun.specs.declared.slot.PatternForm.{PatternForm}
use Rattle.leastrun.specs.declared.rows.SlotRows.{SlotRows}
use Rattle.leastrun.specs.declared.tables.Tables.{Tables}
use Rattle.leastrun.specs.parts.Slots.{send_slot, finder_slot, HasForms}
use Rattle.leastrun.specs.parts.Queues.{row, StandsIn}

-- a send stands in the row of each of these forms
abbrev pub IsSendIn : List PatternForm → SlotRows → Call → ℕ → Type 0
IsSendIn forms rows call c = (i q : ℕ) (form : PatternForm) → slice_get forms i ≡ Some form → send_slot form call ≡ Some q → StandsIn rows q c

-- a finder stands in its row
abbrev pub IsFinderIn : SlotRows → Call → ℕ → Type 0
IsFinderIn rows call c = (q : ℕ) → finder_slot call ≡ Some q → StandsIn rows q c

-- what stands in a row is issued, and calls of one rank stand there in their order
pub record AreInOrder (p : MpiProgram) (m : Configuration) (rows : SlotRows) : Type 0 where
  pub issued : (q i e : ℕ) → slice_get (row rows q) i ≡ Some e → is_issued p m e ≡ true
  pub ordered : (q i j d e : ℕ) → slice_get (row rows q) i ≡ Some d → slice_get (row rows q) j ≡ Some e → i < j → are_of_one_rank p d e ≡ true → d ≤ e

-- Each open call but the fresh one stands in its rows: a send in the row of each form that a finder
-- of the program has, a finder in the row of its own.
pub record IsKept (p : MpiProgram) (fresh : Option ℕ) (m : Configuration) (t : Tables) : Type 0 where
  pub all_forms : HasForms p t.forms.items
  pub sent : (c : ℕ) (call : Call) → is_open_call p m c ≡ true → (fresh ≡ Some c → ⊥) → call_at p c ≡ Some call → IsSendIn t.forms.items t.sends call c
  pub sought : (c : ℕ) (call : Call) → is_open_call p m c ≡ true → (fresh ≡ Some c → ⊥) → call_at p c ≡ Some call → IsFinderIn t.finders call c
  pub send_order : AreInOrder p m t.sends
  pub finder_order : AreInOrder p m t.finders

-- the other call is open and fits this one, as its send or as its finder
abbrev pub is_mate : MpiProgram → Configuration → ℕ → ℕ → Bool
is_mate p m c other = is_open_call p m other && (are_fit p c other || are_fit p other c)

-- the first mate of the call in the row
pub record IsFirstMate (p : MpiProgram) (m : Configuration) (entries : List ℕ) (c other : ℕ) : Type 0 where
  pub place : ℕ
  pub there : slice_get entries place ≡ Some other
  pub mate : is_mate p m c other ≡ true
  pub first : (i e : ℕ) → i < place → slice_get entries i ≡ Some e → is_mate p m c e ≡ false

abbrev pub NoMateAmong : MpiProgram → Configuration → List ℕ → ℕ → Type 0
NoMateAmong p m entries c = (i e : ℕ) → slice_get entries i ≡ Some e → is_mate p m c e ≡ false

-- a mate of the call, and the earliest one of its rank in the slot's row
pub record IsLeastIn (p : MpiProgram) (m : Configuration) (rows : SlotRows) (q c other : ℕ) : Type 0 where
  pub mate : is_mate p m c other ≡ true
  pub least : (y : ℕ) → is_mate p m c y ≡ true → StandsIn rows q y → are_of_one_rank p y other ≡ true → other ≤ y

abbrev pub NoMateIn : MpiProgram → Configuration → SlotRows → ℕ → ℕ → Type 0
NoMateIn p m rows q c = (y : ℕ) → is_mate p m c y ≡ true → StandsIn rows q y → ⊥

abbrev pub lesser : Option ℕ → Option ℕ → Option ℕ
lesser None other = other
lesser (Some one) None = Some one
lesser (Some one) (Some other) = cond (nat_lt other one) (Some other) (Some one)

-- a mate of the call, and the earliest one of its rank
pub record IsLeastMate (p : MpiProgram) (m : Configuration) (c other : ℕ) : Type 0 where
  pub mate : is_mate p m c other ≡ true
  pub least : (y : ℕ) → is_mate p m c y ≡ true → are_of_one_rank p y other ≡ true → other ≤ y

-- no open finder is one that the call fits
abbrev pub NoFinder : MpiProgram → Configuration → ℕ → Type 0
NoFinder p m c = (y : ℕ) → is_open_call p m y ≡ true → are_fit p c y ≡ true → ⊥

-- no open send fits the call
abbrev pub NoSend : MpiProgram → Configuration → ℕ → Type 0
NoSend p m c = (y : ℕ) → is_open_call p m y ≡ true → are_fit p y c ≡ true → ⊥

abbrev pub NoMate : MpiProgram → Configuration → ℕ → Type 0
NoMate p m c = (y : ℕ) → is_mate p m c y ≡ true → ⊥

-- the step by which one of the two finds the other
abbrev pub step_between : MpiProgram → ℕ → ℕ → Step
step_between p c other =
    cond (are_fit p c other) (find_step (is_probe p other) c other) (find_step (is_probe p c) other c)

-- no open finder fits an open send
abbrev pub NoOpenPair : MpiProgram → Configuration → Type 0
NoOpenPair p m = (s f : ℕ) → IsOpenPair p m s f → ⊥

-- The fresh call, if there is one, is the last issued one of its rank, and each open pair is one of
-- it.
pub record IsFresh (p : MpiProgram) (m : Configuration) (fresh : Option ℕ) : Type 0 where
  pub only : (s f : ℕ) → IsOpenPair p m s f → (fresh ≡ Some s) ⊎ (fresh ≡ Some f)
  pub issued : (c : ℕ) → fresh ≡ Some c → is_issued p m c ≡ true
  pub last : (c d : ℕ) → fresh ≡ Some c → is_issued p m d ≡ true → are_of_one_rank p d c ≡ true → d ≤ c

-- the fresh call after a step
abbrev pub fresh_after : Configuration → Option ℕ → Step → Option ℕ
fresh_after m fresh (Issue rank buffered) = slice_get m.next rank
fresh_after m fresh (Match s t) = fresh
fresh_after m fresh (See s f) = fresh

abbrev pub IsNoIssue : Step → Type 0
IsNoIssue step = (rank : ℕ) (buffered : Bool) → step ≡ Issue rank buffered → ⊥

-- before an issue no call is fresh
abbrev pub IsSettled : Option ℕ → Step → Type 0
IsSettled fresh step = (rank : ℕ) (buffered : Bool) → step ≡ Issue rank buffered → fresh ≡ None

-- an enabled step that is no issue
pub record IsFind (p : MpiProgram) (m : Configuration) (step : Step) : Type 0 where
  pub enabled : IsEnabled p m step
  pub no_issue : IsNoIssue step

-- The step issues a call as buffered only where the policy has each buffered; or as not buffered
-- only where it can't be issued as buffered.
abbrev pub IsChosen : Buffering → MpiProgram → Configuration → Step → Type 0
IsChosen Least p m step = (rank : ℕ) → step ≡ Issue rank true → p.policy ≡ Always
IsChosen Most p m step = (rank : ℕ) → step ≡ Issue rank false → IsEnabled p m (Issue rank true) → ⊥

-- An enabled step that buffers as little, or as much, as it may; an issue only where no open finder
-- fits an open send.
pub record IsNext (buffering : Buffering) (p : MpiProgram) (m : Configuration) (step : Step) : Type 0 where
  pub enabled : IsEnabled p m step
  pub choice : IsChosen buffering p m step
  pub settled : (rank : ℕ) (buffered : Bool) → step ≡ Issue rank buffered → NoOpenPair p m

-- no call of the rank can be issued
abbrev pub NoIssueOf : MpiProgram → Configuration → ℕ → Type 0
NoIssueOf p m rank = (buffered : Bool) → IsTrue (can_issue p m rank buffered) → ⊥
