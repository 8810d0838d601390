-- Who sends messages with an envelope, and who takes them: the k-th of the ones belongs to the k-th
-- of the others.
use Rattle.std.specs.Prelude.{◌≡◌, ℕ, ◌+◌, ◌<◌, Bool, true, false, ◌&&◌, ◌==◌, not, if◌then◌else◌, List, [], ◌∷◌, ◌++◌, length, take, Option, Some, None, is_some, slice_get, get_or}
use Rattle.std.specs.Bool.{beq}
use Rattle.std.specs.List.{count_by}
use Rattle.std.specs.Option.{option_eq, unwrap_or}
use Rattle.callorder.specs.declared.calls.Call.{Call}
use Rattle.callorder.specs.declared.calls.Message.{Message}
use Rattle.callorder.specs.declared.calls.Pattern.{Pattern}
use Rattle.callorder.specs.Calls.{message_of, pattern_of, is_probe_kind}
use Rattle.callorder.specs.Programs.{MpiProgram}
use Rattle.semantics.specs.Machine.{Configuration, partner_of}
use Rattle.phases.specs.Order.{Envelope, AreCounterparts, sends_with, takes_with}
use Rattle.sealing.specs.declared.sides.Side.{Side}
use Rattle.sealing.specs.declared.sides.Wanted.{Wanted}
use Rattle.sealing.specs.declared.occurrences.Occurrence.{Occurrence}

-- ---- the side of a call

abbrev pub wanted_found : ℕ → Option Pattern → Option Wanted
wanted_found rank None = None
wanted_found rank (Some pattern) = Some (record { source = pattern.source; destination = rank; tag = pattern.tag; communicator = pattern.communicator })

-- what a taker asks for
abbrev pub wanted_of : Call → Option Wanted
wanted_of call = if is_probe_kind call.kind then None else wanted_found call.rank (pattern_of call.kind)

abbrev pub side_named : Option ℕ → Option ℕ → ℕ → ℕ → Option Side
side_named None tag destination communicator = None
side_named (Some source) None destination communicator = None
side_named (Some source) (Some tag) destination communicator =
    Some (record { source = source; destination = destination; tag = tag; communicator = communicator; is_send = false })

-- the side of a taker, where it names an envelope
abbrev pub side_taken : Option Wanted → Option Side
side_taken None = None
side_taken (Some wanted) = side_named wanted.source wanted.tag wanted.destination wanted.communicator

abbrev pub side_sent : ℕ → Option Wanted → Option Message → Option Side
side_sent rank wanted None = side_taken wanted
side_sent rank wanted (Some message) =
    Some (record { source = rank; destination = message.destination; tag = message.tag; communicator = message.communicator; is_send = true })

-- the side of a send, or of a taker that names an envelope
abbrev pub side_of : Call → Option Side
side_of call = side_sent call.rank (wanted_of call) (message_of call.kind)

abbrev pub envelope_of : Side → Envelope
envelope_of side = record { source = side.source; destination = side.destination; tag = side.tag; communicator = side.communicator }

-- the call sends messages with the side's envelope, or takes them
abbrev pub acts_for : Side → Call → Bool
acts_for side call = if side.is_send then sends_with (envelope_of side) call else takes_with (envelope_of side) call

abbrev pub same_side : Side → Side → Bool
same_side a b = a.source == b.source && (a.destination == b.destination && (a.tag == b.tag && (a.communicator == b.communicator && beq a.is_send b.is_send)))

abbrev pub same_wanted : Wanted → Wanted → Bool
same_wanted a b =
    option_eq (λ (x y : ℕ). x == y) a.source b.source
    && (a.destination == b.destination && (option_eq (λ (x y : ℕ). x == y) a.tag b.tag && a.communicator == b.communicator))

-- ---- which one of its side a call is

abbrev pub same_occurrence : Occurrence → Occurrence → Bool
same_occurrence a b = same_side a.side b.side && a.index == b.index

-- so many of these calls are of the side
abbrev pub AreCounts : List Call → (Side → Option ℕ) → Type 0
AreCounts calls counts = (side : Side) → unwrap_or (counts side) 0 ≡ count_by (acts_for side) calls

-- one more of the side is counted, before which so many were
abbrev pub CountsOneMore : Side → ℕ → (Side → Option ℕ) → (Side → Option ℕ) → Type 0
CountsOneMore side index old new = (other : Side) → new other ≡ (if same_side side other then Some (index + 1) else old other)

-- what comes behind these calls, of the side
abbrev pub occurrence_behind : List Call → Option Side → Option Occurrence
occurrence_behind calls None = None
occurrence_behind calls (Some side) = Some (record { side = side; index = count_by (acts_for side) calls })

-- the call is told by its side and by how many of that side were counted, and is counted
abbrev pub IsCounted : Call → Option Occurrence → (Side → Option ℕ) → (Side → Option ℕ) → Type 0
IsCounted call one old new = (calls : List Call) → AreCounts calls old → (one ≡ occurrence_behind calls (side_of call)) × AreCounts (calls ++ call ∷ []) new

abbrev pub occurrence_there : List Call → ℕ → Option Call → Option Occurrence
occurrence_there calls c None = None
occurrence_there calls c (Some call) = occurrence_behind (take c calls) (side_of call)

-- the side of the call at a place, and how many of that side stand before it
abbrev pub occurrence_at : List Call → ℕ → Option Occurrence
occurrence_at calls c = occurrence_there calls c (slice_get calls c)

-- these are the first n calls' occurrences
pub record AreOccurrences (calls : List Call) (n : ℕ) (occurrences : List (Option Occurrence)) : Type 0 where
  pub size : length occurrences ≡ n
  pub each : (c : ℕ) → c < n → get_or occurrences c None ≡ occurrence_at calls c

-- where an occurrence stands, among the first n places
pub record ArePlaces (occurrences : List (Option Occurrence)) (n : ℕ) (places : Occurrence → Option ℕ) : Type 0 where
  pub there : (one : Occurrence) (c : ℕ) → places one ≡ Some c → (c < n) × (slice_get occurrences c ≡ Some (Some one))
  pub each : (one : Occurrence) (c : ℕ) → c < n → slice_get occurrences c ≡ Some (Some one) → is_some (places one) ≡ true

-- ---- partners

-- a taker among these calls asks for this
pub record IsAskedByTaker (calls : List Call) (wanted : Wanted) : Type 0 where
  pub place : ℕ
  pub call : Call
  pub there : slice_get calls place ≡ Some call
  pub asks : wanted_of call ≡ Some wanted

-- what the takers among the first n calls ask for
pub record AreAsked (calls : List Call) (n : ℕ) (asked : Wanted → Bool) : Type 0 where
  pub some : (wanted : Wanted) → asked wanted ≡ true → IsAskedByTaker calls wanted
  pub each : (c : ℕ) (call : Call) (wanted : Wanted) → c < n → slice_get calls c ≡ Some call → wanted_of call ≡ Some wanted → asked wanted ≡ true

abbrev pub wanted_by : Option ℕ → Option ℕ → Side → Wanted
wanted_by source tag side = record { source = source; destination = side.destination; tag = tag; communicator = side.communicator }

-- no taker asks for messages with the side's envelope by a wildcard
abbrev pub is_exact : (Wanted → Bool) → Side → Bool
is_exact asked side =
    not (asked (wanted_by None None side)) && (not (asked (wanted_by None (Some side.tag) side)) && not (asked (wanted_by (Some side.source) None side)))

-- the one of the other side
abbrev pub opposite : Occurrence → Occurrence
opposite one =
    record {
      side = record {
        source = one.side.source;
        destination = one.side.destination;
        tag = one.side.tag;
        communicator = one.side.communicator;
        is_send = not
            one.side.is_send;
      };
      index = one.index;
    }

abbrev pub partner_in : (Wanted → Bool) → (Occurrence → Option ℕ) → Option Occurrence → Option ℕ
partner_in asked places None = None
partner_in asked places (Some one) = if is_exact asked one.side then places (opposite one) else None

-- calls that are counterparts are partners in the configuration
abbrev pub HasAllSure : MpiProgram → Configuration → Type 0
HasAllSure p e = (s t : ℕ) → AreCounterparts p s t → (partner_of e s ≡ Some t) × (partner_of e t ≡ Some s)
