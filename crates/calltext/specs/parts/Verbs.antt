-- What inner functions promise one another, beside `specs/Verbs.antt`.
use Rattle.std.specs.Prelude.{◌≡◌, ◌≢◌, ℕ, true, false, List, [], ◌∷◌, ◌++◌, Option, Some, None, IfSome, IsTrue}
use Rattle.plaintext.specs.Plain.{numeral}
use Rattle.calltext.specs.declared.call.CallLine.{CallLine}
use Rattle.calltext.specs.declared.call.CallLine.TheVariants.{Send, Receive, MatchedProbe, Probe, MatchedReceive, Wait, WaitAll, SendReceive}
use Rattle.calltext.specs.declared.call.Mode.TheVariants.{Standard, Synchronous, Buffered}
use Rattle.calltext.specs.declared.verb.Verb.{Verb}
use Rattle.calltext.specs.declared.verb.Verb.TheVariants as verb
use Rattle.calltext.specs.Names.{is_name, AreNames}
use Rattle.calltext.specs.Grammar.{or_star, communicator_words, HasNames}
use Rattle.calltext.specs.parts.Capped.{capped_call}
use Rattle.calltext.specs.Verbs.{is_started, verb_of}

-- All verbs.
unfoldable pub verbs : List Verb
verbs =
    verb.Send Standard false ∷ verb.Send Synchronous false ∷ verb.Send Buffered false ∷ verb.Send Standard true ∷ verb.Send Synchronous true ∷ verb.Send Buffered true
    ∷ verb.Receive false ∷ verb.Receive true ∷ verb.MatchedProbe ∷ verb.Probe ∷ verb.MatchedReceive false ∷ verb.MatchedReceive true ∷ verb.Wait ∷ verb.WaitAll ∷ verb.SendReceive ∷ []

-- What a send names after its request.
abbrev pub message_words : ℕ → ℕ → Option ℕ → List (List ℕ)
message_words destination tag communicator = numeral destination ∷ numeral tag ∷ communicator_words communicator

-- What a receive, a matched probe or a probe names last.
abbrev pub pattern_words : Option ℕ → Option ℕ → Option ℕ → List (List ℕ)
pattern_words source tag communicator = or_star source ∷ or_star tag ∷ communicator_words communicator

abbrev pub request_words : Option (List ℕ) → List (List ℕ)
request_words None = []
request_words (Some request) = request ∷ []

-- Names stand before numbers.
abbrev pub name_words : CallLine → List (List ℕ)
name_words (Send mode request destination tag communicator) = request_words request
name_words (Receive request source tag communicator) = request_words request
name_words (MatchedProbe handle source tag communicator) = handle ∷ []
name_words (Probe source tag communicator) = []
name_words (MatchedReceive request handle) = request_words request ++ handle ∷ []
name_words (Wait request) = request ∷ []
name_words (WaitAll requests) = requests
name_words (SendReceive destination send_tag source receive_tag communicator) = []

abbrev pub number_words : CallLine → List (List ℕ)
number_words (Send mode request destination tag communicator) = message_words destination tag communicator
number_words (Receive request source tag communicator) = pattern_words source tag communicator
number_words (MatchedProbe handle source tag communicator) = pattern_words source tag communicator
number_words (Probe source tag communicator) = pattern_words source tag communicator
number_words (MatchedReceive request handle) = []
number_words (Wait request) = []
number_words (WaitAll requests) = []
number_words (SendReceive destination send_tag source receive_tag communicator) = numeral destination ∷ numeral send_tag ∷ pattern_words source receive_tag communicator

-- What a call's words are after its verb.
abbrev pub operands : CallLine → List (List ℕ)
operands call = name_words call ++ number_words call

-- A request's name, if there is one, is a name.
abbrev pub IsRequest : Option (List ℕ) → Type 0
IsRequest request = IfSome request (λ name. IsTrue (is_name name))

-- The words are the operands of no call of this verb.
abbrev pub AreNoOperands : Verb → List (List ℕ) → Type 0
AreNoOperands (verb.Send mode started) words =
    (request : Option (List ℕ)) (destination tag : ℕ) (communicator : Option ℕ) → IsRequest request → is_started request ≡ started → request_words request ++ message_words destination tag communicator ≢ words
AreNoOperands (verb.Receive started) words =
    (request : Option (List ℕ)) (source tag communicator : Option ℕ) → IsRequest request → is_started request ≡ started → request_words request ++ pattern_words source tag communicator ≢ words
AreNoOperands verb.MatchedProbe words = (handle : List ℕ) (source tag communicator : Option ℕ) → IsTrue (is_name handle) → handle ∷ pattern_words source tag communicator ≢ words
AreNoOperands verb.Probe words = (source tag communicator : Option ℕ) → pattern_words source tag communicator ≢ words
AreNoOperands (verb.MatchedReceive started) words =
    (request : Option (List ℕ)) (handle : List ℕ) → IsRequest request → IsTrue (is_name handle) → is_started request ≡ started → request_words request ++ handle ∷ [] ≢ words
AreNoOperands verb.Wait words = (request : List ℕ) → IsTrue (is_name request) → request ∷ [] ≢ words
AreNoOperands verb.WaitAll words = AreNames words → ⊥
AreNoOperands verb.SendReceive words =
    (destination send_tag : ℕ) (source receive_tag communicator : Option ℕ) → numeral destination ∷ numeral send_tag ∷ pattern_words source receive_tag communicator ≢ words

-- What the operands of a verb are read as: some call that has names has this verb and these
-- operands, and is found with its numbers capped; or none has.
abbrev pub IsReadAs : Verb → List (List ℕ) → Option CallLine → Type 0
IsReadAs verb words None = AreNoOperands verb words
IsReadAs verb words (Some found) = (call : CallLine) × HasNames call × (verb_of call ≡ verb) × (operands call ≡ words) × (found ≡ capped_call call)
