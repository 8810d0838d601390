-- Whether the requests and handles of a program are right, of which the text was read.
use Rattle.std.proofs.Common.{◌≡◌, ℕ, ◌-◌, List, Option, ap, subst, ◌∙◌}
use Rattle.std.specs.Global.{Vec}
use Rattle.calltext.specs.Grammar.{ProgramText, IsTextWithin, long}
use Rattle.calltext.proofs.Exact.{one_value_within}
use Rattle.callorder.specs.Programs.{MpiProgram}
use Rattle.callorder.specs.FirstFaults.{IsFirstCallFault}
use Rattle.callorder.specs.Resolving.{IsProgramOfWithin}
use Rattle.callorder.specs.declared.fault.CallFault.{CallFault}
use Rattle.spmd_text.specs.declared.reading.SpmdPolicy.{SpmdPolicy}
use Rattle.unroll.specs.declared.call.Placed.{Placed}
use Rattle.unroll.specs.declared.call.Turn.{Turn}
use Rattle.spmd_program.specs.Programs.{IsProgramText, program_of}
use Rattle.spmd_program.specs.Requests.{AreOrdered, IsToldOf, AreUnordered, call_of_line}

-- they are right, where the text that was read is a program
pub right : (bytes : List ℕ) (policy : SpmdPolicy) (names : List (Vec ℕ)) (ranks : ℕ) (calls : List Placed) (source : ProgramText) (p : MpiProgram) → IsProgramText policy names ranks calls bytes
    → IsTextWithin long bytes source → IsProgramOfWithin long source p → AreOrdered policy names ranks calls
right bytes policy names ranks calls source p is read of =
    (p, subst (λ (t : ProgramText). IsProgramOfWithin long t p) (one_value_within long bytes source (program_of policy names ranks calls) read is) of)

-- they are wrong, where that has a first fault, which is told of the call that it stands for
pub wrong : (path bytes : List ℕ) (policy : SpmdPolicy) (names given : List (Vec ℕ)) (ranks : ℕ) (turns held : List Turn) (calls made : List Placed) (source : ProgramText) (rank place behind : ℕ) (why : CallFault)
    (placed : Option Placed) (told : List ℕ) → IsProgramText policy names ranks calls bytes → IsTextWithin long bytes source → IsFirstCallFault long source rank place why → given ≡ names → held ≡ turns → made ≡ calls
    → behind ≡ place - 1 → placed ≡ call_of_line made rank behind → IsToldOf path given held placed why told → AreUnordered path policy names ranks turns calls told
wrong path bytes policy names given ranks turns held calls made source rank place behind why placed told is read first same_names same_turns same_calls before found said =
    let call : placed ≡ call_of_line calls rank (place - 1) =
    found ∙ ap (λ (ps : List Placed). call_of_line ps rank behind) same_calls ∙ ap (λ (k : ℕ). call_of_line calls rank k) before in
    let said_of_call : IsToldOf path given held (call_of_line calls rank (place - 1)) why told = subst (λ (o : Option Placed). IsToldOf path given held o why told) call said in
    let said_of_turns : IsToldOf path given turns (call_of_line calls rank (place - 1)) why told =
    subst (λ (ts : List Turn). IsToldOf path given ts (call_of_line calls rank (place - 1)) why told) same_turns said_of_call in
    record {
      rank = rank;
      place = place;
      why = why;
      first = subst (λ (t : ProgramText). IsFirstCallFault long t rank place why) (one_value_within long bytes source (program_of policy names ranks calls) read is) first;
      words = subst (λ (ns : List (Vec ℕ)). IsToldOf path ns turns (call_of_line calls rank (place - 1)) why told) same_names said_of_turns;
    }
