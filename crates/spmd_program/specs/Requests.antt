-- What is wrong with the requests and handles of an unrolled text, told by the line of that text.
use Rattle.std.specs.Prelude.{codes, ◌≡◌, ℕ, ◌-◌, Bool, ◌&&◌, nat_eq, List, [], ◌∷◌, ◌++◌, Option, Some, None, if◌then◌else◌}
use Rattle.std.specs.Global.{Vec}
use Rattle.calltext.specs.Grammar.{long}
use Rattle.callorder.specs.Programs.{MpiProgram}
use Rattle.callorder.specs.FirstFaults.{IsFirstCallFault}
use Rattle.callorder.specs.Resolving.{IsProgramOfWithin}
use Rattle.callorder.specs.declared.fault.CallFault.{CallFault}
use Rattle.callorder.specs.declared.fault.CallFault.TheVariants as fault
use Rattle.spmd_text.specs.declared.reading.SpmdPolicy.{SpmdPolicy}
use Rattle.unroll.specs.declared.call.Placed.{Placed}
use Rattle.unroll.specs.declared.call.Turn.{Turn}
use Rattle.spmd_program.specs.Lines.{begins_line}
use Rattle.spmd_program.specs.Programs.{program_of}
use Rattle.spmd_program.specs.Told.{spmd_place_text}

-- a line of this rank begins with the call
abbrev pub begins_line_of : ℕ → Placed → Bool
begins_line_of rank p = nat_eq p.rank rank && begins_line p.call

-- the call that begins the line of this place, from 0, of a rank
abbrev pub call_of_line : List Placed → ℕ → ℕ → Option Placed
call_of_line [] rank place = None
call_of_line (p ∷ ps) rank place =
    if begins_line_of rank p then (if nat_eq place 0 then Some p else call_of_line ps rank (place - 1)) else call_of_line ps rank place

abbrev pub fault_words : CallFault → List ℕ
fault_words fault.RequestUnknown = codes "the request is not started, or it was waited for already"
fault_words fault.RequestOpen = codes "the request is started again before it is waited for"
fault_words fault.RequestLeft = codes "the request is never waited for"
fault_words fault.HandleUnknown = codes "the handle has no message, or it was received already"
fault_words fault.HandleOpen = codes "the handle is used again before its message is received"
fault_words fault.HandleLeft = codes "the message of the handle is never received"
fault_words fault.PeerRange = codes "the peer is no rank"
fault_words fault.TooManyCalls = codes "there are too many calls"

-- the fault is told of the line from which the call comes
abbrev pub IsToldOf : List ℕ → List (Vec ℕ) → List Turn → Option Placed → CallFault → List ℕ → Type 0
IsToldOf path names turns None why told = ⊥
IsToldOf path names turns (Some p) why told = told ≡ spmd_place_text path names turns p.line p.rank p.turn ++ (codes ": " ++ fault_words why)

-- the program of these calls has this first fault, and it is told by the line of the SPMD text that
-- its call comes from
pub record AreUnordered (path : List ℕ) (policy : SpmdPolicy) (names : List (Vec ℕ)) (ranks : ℕ) (turns : List Turn) (calls : List Placed) (told : List ℕ) : Type 0 where
  pub rank : ℕ
  pub place : ℕ
  pub why : CallFault
  pub first : IsFirstCallFault long (program_of policy names ranks calls) rank place why
  pub words : IsToldOf path names turns (call_of_line calls rank (place - 1)) why told

-- the requests and handles of these calls are right: the calls are those of a program
abbrev pub AreOrdered : SpmdPolicy → List (Vec ℕ) → ℕ → List Placed → Type 0
AreOrdered policy names ranks calls = (p : MpiProgram) × IsProgramOfWithin long (program_of policy names ranks calls) p
