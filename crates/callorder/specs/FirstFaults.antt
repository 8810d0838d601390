-- Which of the faults of call lines is told: the first, by rank, by place, and at one place by its
-- number. And what a text's program and its first fault are, whatever tells them.
use Rattle.std.specs.Prelude.{◌≡◌, ℕ, ◌<◌, ◌≤◌, ◌⊎◌, List, length}
use Rattle.calltext.specs.Grammar.{ProgramText, short}
use Rattle.calltext.specs.declared.limits.Limits.{Limits}
use Rattle.callorder.specs.declared.fault.CallFault.{CallFault}
use Rattle.callorder.specs.declared.fault.CallFault.TheVariants as faults
use Rattle.callorder.specs.declared.fault.ResolveFault.{ResolveFault}
use Rattle.callorder.specs.declared.fault.ResolveFault.TheVariants as resolve
use Rattle.callorder.specs.Resolving.{HasCallFault, IsProgramOfWithin, IsTextOfWithin, expansion}
use Rattle.calltext.specs.WiderLimits.{IsWithin}
use Rattle.callorder.specs.ProgramRules.{IsProgramWithin}
use Rattle.callorder.specs.Programs.{MpiProgram}

-- the order in which the faults of one line are told
abbrev pub fault_number : CallFault → ℕ
fault_number faults.RequestUnknown = 2
fault_number faults.RequestOpen = 3
fault_number faults.RequestLeft = 4
fault_number faults.HandleUnknown = 5
fault_number faults.HandleOpen = 6
fault_number faults.HandleLeft = 7
fault_number faults.PeerRange = 8
fault_number faults.TooManyCalls = 9

-- of two faults the first has the smaller rank, or at one rank the smaller place, or at one place
-- the smaller number
abbrev pub IsNotAfter : ℕ → ℕ → CallFault → ℕ → ℕ → CallFault → Type 0
IsNotAfter rank place fault rank' place' fault' =
    (rank < rank') ⊎ ((rank ≡ rank') × ((place < place') ⊎ ((place ≡ place') × (fault_number fault ≤ fault_number fault'))))

-- the line has the fault, and no fault of any line comes before it
pub record IsFirstCallFault (l : Limits) (text : ProgramText) (rank place : ℕ) (fault : CallFault) : Type 0 where
  pub here : HasCallFault l text rank place fault
  pub first : (rank' place' : ℕ) (fault' : CallFault) → HasCallFault l text rank' place' fault' → IsNotAfter rank place fault rank' place' fault'

-- want of memory is no fault of a text, and may always be told
abbrev pub IsFirstFaultWithin : Limits → ProgramText → ResolveFault → Type 0
IsFirstFaultWithin l text resolve.Memory = Unit {0}
IsFirstFaultWithin l text (resolve.At rank place fault) = IsFirstCallFault l text rank place fault

-- the fault is the first within the short limits
abbrev pub IsFirstFault : ProgramText → ResolveFault → Type 0
IsFirstFault = IsFirstFaultWithin short

-- a text has one program at most
abbrev pub OneProgram : Type 0
OneProgram = (l : Limits) (text : ProgramText) (p q : MpiProgram) → IsProgramOfWithin l text p → IsProgramOfWithin l text q → p ≡ q

-- no text has both a program and a first fault
abbrev pub ProgramHasNoFault : Type 0
ProgramHasNoFault = (l : Limits) (text : ProgramText) (p : MpiProgram) (fault : ResolveFault) → IsProgramOfWithin l text p → IsFirstFaultWithin l text fault → fault ≡ resolve.Memory

-- a text has one first fault at most
abbrev pub OneFirstFault : Type 0
OneFirstFault = (l : Limits) (text : ProgramText) (a b : ResolveFault) → IsFirstFaultWithin l text a → IsFirstFaultWithin l text b → (a ≡ resolve.Memory → ⊥) → (b ≡ resolve.Memory → ⊥) → a ≡ b

-- where no call line has a fault, the expansion is a program
abbrev pub ExpansionIsProgram : Type 0
ExpansionIsProgram = (l : Limits) (text : ProgramText) → 1 ≤ length text.ranks → length text.ranks ≤ l.ranks → ((rank place : ℕ) (fault : CallFault) → HasCallFault l text rank place fault → ⊥) → IsProgramWithin l (expansion text)

-- bytes are the text of one program at most
abbrev pub OneProgramOfBytes : Type 0
OneProgramOfBytes = (l : Limits) (bytes : List ℕ) (p q : MpiProgram) → IsTextOfWithin l bytes p → IsTextOfWithin l bytes q → p ≡ q

-- bytes that are a program's text within some limits are the same program's within any wider ones,
-- and no other's
abbrev pub SameProgramWithin : Type 0
SameProgramWithin = (l m : Limits) (bytes : List ℕ) (p : MpiProgram) → IsWithin l m → IsTextOfWithin l bytes p → IsTextOfWithin m bytes p × ((q : MpiProgram) → IsTextOfWithin m bytes q → q ≡ p)
