-- What is told of a place in an SPMD text, and of what is wrong there.
use Rattle.std.specs.Prelude.{codes, ℕ, zero, suc, ◌-◌, ℤ, pos, nat_eq, int_lt, List, [], ◌++◌, Option, Some, None, slice_get, if◌then◌else◌}
use Rattle.std.specs.Fmt.{signed_decimal}
use Rattle.std.specs.Global.{Vec}
use Rattle.plaintext.specs.Plain.{numeral}
use Rattle.unroll.specs.declared.value.FaultReason.{FaultReason}
use Rattle.unroll.specs.declared.value.FaultReason.TheVariants as reason
use Rattle.unroll.specs.declared.call.Fault.{Fault}
use Rattle.unroll.specs.declared.call.Turn.{Turn}
use Rattle.spmd_program.specs.Lines.{name_at}

-- ---- turns of loops

-- the turn of this number, from 1; 0 is none
abbrev pub turn_at : List Turn → ℕ → Option Turn
turn_at turns number = if nat_eq number 0 then None else slice_get turns (number - 1)

-- a loop's variable with its value
abbrev pub turn_words : List (Vec ℕ) → Turn → List ℕ
turn_words names t = codes ", " ++ (name_at names t.name ++ (codes "=" ++ signed_decimal t.value))

abbrev pub turn_behind : List (Vec ℕ) → Option Turn → (ℕ → List ℕ) → List ℕ
turn_behind names None outer = []
turn_behind names (Some t) outer = outer t.outer ++ turn_words names t

-- a turn behind those of the loops around it, at most so many
unfoldable pub turns_from : ℕ → List (Vec ℕ) → List Turn → ℕ → List ℕ
turns_from zero names turns number = []
turns_from (suc n) names turns number = turn_behind names (turn_at turns number) (λ outer. turns_from n names turns outer)

-- the turns that a line is in, the outermost first: no text has more than 32 loops within one
-- another
abbrev pub turns_text : List (Vec ℕ) → List Turn → ℕ → List ℕ
turns_text names turns number = turns_from 32 names turns number

-- ---- reasons

-- a name or a number between two texts
unfoldable pub name_between : List ℕ → List (Vec ℕ) → ℕ → List ℕ → List ℕ
name_between before names name after = before ++ (name_at names name ++ after)

unfoldable pub counted : List ℕ → ℤ → List ℕ → List ℕ
counted before number after = before ++ (signed_decimal number ++ after)

unfoldable pub peer_text : ℕ → ℤ → List ℕ
peer_text size peer = if int_lt peer (pos 0) then counted (codes "peer ") peer (codes " is below 0") else counted (codes "peer ") peer (codes " is not below ") ++ numeral size

-- what is wrong, in a program of so many ranks
abbrev pub reason_text : List (Vec ℕ) → ℕ → FaultReason → List ℕ
reason_text names size (reason.NoValue name) = name_between [] names name (codes " has no value here")
reason_text names size (reason.NoSetting name) = name_between (codes "the parameter ") names name (codes " has no value")
reason_text names size reason.Overflow = codes "a number beyond 64 bits"
reason_text names size (reason.Divisor divisor) = counted (codes "divisor ") divisor (codes " is not above 0")
reason_text names size (reason.Shift by) = counted (codes "a shift by ") by (codes " is not 0 to 62")
reason_text names size (reason.BelowZero number) = counted (codes "xor of ") number (codes ", which is below 0")
reason_text names size reason.NullNumber = codes "null where a number has to stand"
reason_text names size reason.Kind = codes "a condition where a number has to stand"
reason_text names size (reason.PeerRange peer) = peer_text size peer
reason_text names size (reason.TagRange tag) = counted (codes "tag ") tag (codes " is not 0 to 32767")
reason_text names size (reason.CommunicatorRange communicator) = counted (codes "communicator ") communicator (codes " is not 0 to 127")
reason_text names size (reason.IndexRange index) = counted (codes "index ") index (codes " is not 0 to 99999")
reason_text names size reason.ErrorReached = codes "error was reached"
reason_text names size (reason.StillOpen name) = name_between [] names name (codes " is started again before its end")
reason_text names size (reason.NeverEnded name) = name_between [] names name (codes " is never waited for")
reason_text names size reason.TooManyCalls = codes "more than 18446744073709551615 calls"
reason_text names size reason.TooManyTurns = codes "more than 10000000 turns of loops"
reason_text names size (reason.GroupStep step) = counted (codes "step ") step (codes " of a group is not 1 to 65535")
reason_text names size (reason.NotInGroup rank) = counted (codes "rank ") (pos rank) (codes " is not of the group")
reason_text names size reason.TooManyCollectives = codes "more than 67108864 collective calls with one communicator and group"
reason_text names size reason.TooManyGroups = codes "more than 2147483520 groups of collective calls"

-- ---- places

-- the line of the text at a path, on a rank, in these turns
abbrev pub spmd_place_text : List ℕ → List (Vec ℕ) → List Turn → ℕ → ℕ → ℕ → List ℕ
spmd_place_text path names turns line rank turn = path ++ (codes ":" ++ (numeral line ++ (codes ", rank " ++ (numeral rank ++ turns_text names turns turn))))

-- what is told of a fault of unrolling
abbrev pub fault_text : List ℕ → List (Vec ℕ) → ℕ → List Turn → Fault → List ℕ
fault_text path names size turns f = spmd_place_text path names turns f.line f.rank f.turn ++ (codes ": " ++ reason_text names size f.reason)
