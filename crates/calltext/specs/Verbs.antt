-- A call line's words as its verb, which is the first of them, and its operands, which are the
-- others.
use Rattle.std.specs.Prelude.{codes, ℕ, Bool, true, false, List, ◌∷◌, Option, Some, None}
use Rattle.calltext.specs.declared.call.CallLine.{CallLine}
use Rattle.calltext.specs.declared.call.CallLine.TheVariants.{Send, Receive, MatchedProbe, Probe, MatchedReceive, Wait, WaitAll, SendReceive}
use Rattle.calltext.specs.declared.verb.Verb.{Verb}
use Rattle.calltext.specs.declared.verb.Verb.TheVariants as verb
use Rattle.calltext.specs.Grammar.{send_word}

-- ---- verbs

-- A call with a request is nonblocking: it is started, and a wait comes later.
abbrev pub is_started : Option (List ℕ) → Bool
is_started None = false
is_started (Some request) = true

abbrev pub verb_of : CallLine → Verb
verb_of (Send mode request destination tag communicator) = verb.Send mode (is_started request)
verb_of (Receive request source tag communicator) = verb.Receive (is_started request)
verb_of (MatchedProbe handle source tag communicator) = verb.MatchedProbe
verb_of (Probe source tag communicator) = verb.Probe
verb_of (MatchedReceive request handle) = verb.MatchedReceive (is_started request)
verb_of (Wait request) = verb.Wait
verb_of (WaitAll requests) = verb.WaitAll
verb_of (SendReceive destination send_tag source receive_tag communicator) = verb.SendReceive

-- The word of a call that is started has an `i` before the blocking call's.
abbrev pub started_word : Bool → List ℕ → List ℕ
started_word false word = word
started_word true word = 105 ∷ word

abbrev pub verb_word : Verb → List ℕ
verb_word (verb.Send mode started) = started_word started (send_word mode)
verb_word (verb.Receive started) = started_word started (codes "recv")
verb_word verb.MatchedProbe = codes "mprobe"
verb_word verb.Probe = codes "probe"
verb_word (verb.MatchedReceive started) = started_word started (codes "mrecv")
verb_word verb.Wait = codes "wait"
verb_word verb.WaitAll = codes "waitall"
verb_word verb.SendReceive = codes "sendrecv"
