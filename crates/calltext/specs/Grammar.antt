-- The text of a program. It is defined by its printer: a value has one text. Numbers may be of any
-- size here, and the limits stand apart, so that a number out of range is told apart from a line of
-- the wrong shape.
use Rattle.std.specs.Prelude.{codes, ◌≡◌, ℕ, ◌+◌, ◌≤◌, List, [], ◌∷◌, ◌++◌, length, map, Option, Some, None, IfSome, IsTrue, ⊤}
use Rattle.std.specs.List.{AllByRecursion, flat_map}
use Rattle.plaintext.specs.Plain.{numeral, line_of}
use Rattle.calltext.specs.declared.call.CallLine.{CallLine}
use Rattle.calltext.specs.declared.call.CallLine.TheVariants.{Send, Receive, MatchedProbe, Probe, MatchedReceive, Wait, WaitAll, SendReceive}
use Rattle.calltext.specs.declared.call.Mode.{Mode}
use Rattle.calltext.specs.declared.call.Mode.TheVariants.{Standard, Synchronous, Buffered}
use Rattle.calltext.specs.declared.call.Policy.{Policy}
use Rattle.calltext.specs.declared.call.Policy.TheVariants as policies
use Rattle.calltext.specs.Names.{is_name, AreNames}
use Rattle.calltext.specs.declared.limits.Limits.{Limits}

-- What a program's text says: the policy for standard sends, and the call lines of each rank, from
-- rank 0 on.
pub record ProgramText : Type 0 where
  pub policy : Policy
  pub ranks : List (List CallLine)

-- ---- the words of each line

-- A source or tag that isn't named is a wildcard, written as a star.
abbrev pub or_star : Option ℕ → List ℕ
or_star None = codes "*"
or_star (Some n) = numeral n

-- The communicator stands last, after `comm`; it may be left out.
abbrev pub communicator_words : Option ℕ → List (List ℕ)
communicator_words None = []
communicator_words (Some n) = codes "comm" ∷ numeral n ∷ []

-- A nonblocking call's word has an `i` before the blocking call's, and its request's name follows.
abbrev pub started : Option (List ℕ) → List ℕ → List (List ℕ) → List (List ℕ)
started None word others = word ∷ others
started (Some request) word others = (105 ∷ word) ∷ request ∷ others

-- The word of a blocking send.
abbrev pub send_word : Mode → List ℕ
send_word Standard = codes "send"
send_word Synchronous = codes "ssend"
send_word Buffered = codes "bsend"

-- A send names its destination and tag; a receive, a matched probe and a probe name a source and a
-- tag; each of them may name a communicator. The receive on a matched probe's handle names the
-- handle, a wait its request. A joined send and receive names its destination and send tag, then
-- its source and receive tag.
abbrev pub call_words : CallLine → List (List ℕ)
call_words (Send mode request destination tag communicator) = started request (send_word mode) (numeral destination ∷ numeral tag ∷ communicator_words communicator)
call_words (Receive request source tag communicator) = started request (codes "recv") (or_star source ∷ or_star tag ∷ communicator_words communicator)
call_words (MatchedProbe handle source tag communicator) = codes "mprobe" ∷ handle ∷ or_star source ∷ or_star tag ∷ communicator_words communicator
call_words (Probe source tag communicator) = codes "probe" ∷ or_star source ∷ or_star tag ∷ communicator_words communicator
call_words (MatchedReceive request handle) = started request (codes "mrecv") (handle ∷ [])
call_words (Wait request) = codes "wait" ∷ request ∷ []
call_words (WaitAll requests) = codes "waitall" ∷ requests
call_words (SendReceive destination send_tag source receive_tag communicator) =
    codes "sendrecv" ∷ numeral destination ∷ numeral send_tag ∷ or_star source ∷ or_star receive_tag ∷ communicator_words communicator

-- The word of a policy: any standard send may be buffered, none is, or all are.
abbrev pub policy_word : Policy → List ℕ
policy_word policies.Any = codes "any"
policy_word policies.Never = codes "none"
policy_word policies.Always = codes "all"

-- The first line names how many ranks there are.
abbrev pub ranks_words : ℕ → List (List ℕ)
ranks_words n = codes "ranks" ∷ numeral n ∷ []

-- The second line names the policy.
abbrev pub policy_words : Policy → List (List ℕ)
policy_words p = codes "policy" ∷ policy_word p ∷ []

-- A rank's heading names its number.
abbrev pub rank_words : ℕ → List (List ℕ)
rank_words r = codes "rank" ∷ numeral r ∷ []

-- ---- the text

-- The lines of the ranks from a number on: each rank has its heading, and then its call lines.
abbrev pub rank_lines : ℕ → List (List CallLine) → List (List ℕ)
rank_lines r [] = []
rank_lines r (calls ∷ others) = line_of (rank_words r) ∷ (map (λ c. line_of (call_words c)) calls ++ rank_lines (r + 1) others)

-- The lines of a program: the two headings, and then the ranks from rank 0 on.
abbrev pub program_lines : ProgramText → List (List ℕ)
program_lines p = line_of (ranks_words (length p.ranks)) ∷ line_of (policy_words p.policy) ∷ rank_lines 0 p.ranks

-- The text of a program is its lines, one after another.
abbrev pub text_of : ProgramText → List ℕ
text_of p = flat_map (λ line. line) (program_lines p)

-- ---- the limits

-- A number that is named is at most this; a wildcard always is.
abbrev pub UpTo : ℕ → Option ℕ → Type 0
UpTo most n = IfSome n (λ x. x ≤ most)

-- A communicator that is named is 1 to the highest, since 0 is what is meant where none is named.
abbrev pub IsCommunicator : ℕ → Option ℕ → Type 0
IsCommunicator most n = IfSome n (λ c. (1 ≤ c) × (c ≤ most))

-- Names are names; numbers may be of any size.
abbrev pub HasNames : CallLine → Type 0
HasNames (Send mode request destination tag communicator) = IfSome request (λ name. IsTrue (is_name name))
HasNames (Receive request source tag communicator) = IfSome request (λ name. IsTrue (is_name name))
HasNames (MatchedProbe handle source tag communicator) = IsTrue (is_name handle)
HasNames (Probe source tag communicator) = ⊤
HasNames (MatchedReceive request handle) = IfSome request (λ name. IsTrue (is_name name)) × IsTrue (is_name handle)
HasNames (Wait request) = IsTrue (is_name request)
HasNames (WaitAll requests) = AreNames requests
HasNames (SendReceive destination send_tag source receive_tag communicator) = ⊤

-- Peers, tags and communicators are within the limits.
abbrev pub IsInRange : Limits → CallLine → Type 0
IsInRange l (Send mode request destination tag communicator) = (destination ≤ l.peer) × (tag ≤ l.tag) × IsCommunicator l.communicator communicator
IsInRange l (Receive request source tag communicator) = UpTo l.peer source × UpTo l.tag tag × IsCommunicator l.communicator communicator
IsInRange l (MatchedProbe handle source tag communicator) = UpTo l.peer source × UpTo l.tag tag × IsCommunicator l.communicator communicator
IsInRange l (Probe source tag communicator) = UpTo l.peer source × UpTo l.tag tag × IsCommunicator l.communicator communicator
IsInRange l (MatchedReceive request handle) = ⊤
IsInRange l (Wait request) = ⊤
IsInRange l (WaitAll requests) = ⊤
IsInRange l (SendReceive destination send_tag source receive_tag communicator) =
    (destination ≤ l.peer) × (send_tag ≤ l.tag) × UpTo l.peer source × UpTo l.tag receive_tag × IsCommunicator l.communicator communicator

-- Names are names, and numbers are within the limits.
abbrev pub CallFits : Limits → CallLine → Type 0
CallFits l call = HasNames call × IsInRange l call

-- A program is within the limits if it has one rank or more, no more than they allow, and each
-- call's numbers are in range.
pub record Fits (l : Limits) (p : ProgramText) : Type 0 where
  pub some : 1 ≤ length p.ranks
  pub ranks : length p.ranks ≤ l.ranks
  pub calls : AllByRecursion (AllByRecursion (CallFits l)) p.ranks

-- The bytes are the text of the program, which is within the limits, and they are no more than
-- these allow.
pub record IsTextWithin (l : Limits) (bytes : List ℕ) (p : ProgramText) : Type 0 where
  pub fits : Fits l p
  pub small : length bytes ≤ l.bytes
  pub text : bytes ≡ text_of p

-- The limits of a text that has a formula.
abbrev pub short : Limits
short = record { bytes = 1048576; ranks = 64; peer = 63; tag = 32767; communicator = 255; calls = 1024 }

-- The limits of a text of any length: numbers are of 31 bits, and bytes and calls are as many as
-- memory can hold.
abbrev pub long : Limits
long = record { bytes = 9223372036854775807; ranks = 2147483647; peer = 2147483647; tag = 2147483647; communicator = 2147483647; calls = 9223372036854775807 }
