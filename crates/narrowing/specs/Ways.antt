-- The ways in which a choice can be made.
use Rattle.std.specs.Prelude.{◌≡◌, ◌⊎◌, ◌<◌, ◌∷◌, [], ℕ, IsTrue, List, Option, Some, None, All, Contains}
use Rattle.std.specs.Option.{option_map}
use Rattle.callorder.specs.Calls.{message_of}
use Rattle.callorder.specs.declared.calls.Call.{Call}
use Rattle.callorder.specs.Programs.{MpiProgram, call_at, are_fit}
use Rattle.narrowing.specs.declared.taken.ChoiceTaken.{ChoiceTaken}
use Rattle.narrowing.specs.declared.taken.ChoiceTaken.TheVariants as taken

abbrev pub way_to_call : Option Call → Option ChoiceTaken
way_to_call None = None
way_to_call (Some call) = option_map (λ message. taken.Message call.rank message.tag) (message_of call.kind)

-- that a call finds the message of this send: its rank and its tag
abbrev pub way_to : MpiProgram → ℕ → Option ChoiceTaken
way_to p send = way_to_call (call_at p send)

-- the rank and the tag of some send that fits the call, but not those that it found
pub record IsOtherMessage (p : MpiProgram) (call : ℕ) (taken way : ChoiceTaken) : Type 0 where
  pub send : ℕ
  pub fit : IsTrue (are_fit p send call)
  pub is : way_to p send ≡ Some way
  pub other : way ≡ taken → ⊥

-- Of a call that found a message, the rank and the tag of each send of the program that fits it,
-- but those that it found.
pub record AreOtherMessages (p : MpiProgram) (call : ℕ) (taken : ChoiceTaken) (others : List ChoiceTaken) : Type 0 where
  pub all : (send : ℕ) (way : ChoiceTaken) → IsTrue (are_fit p send call) → way_to p send ≡ Some way → (way ≡ taken) ⊎ Contains others way
  pub each : All (λ way. IsOtherMessage p call taken way) others

-- the same of the first sends, so many
pub record AreOthersBelow (p : MpiProgram) (call : ℕ) (taken : ChoiceTaken) (count : ℕ) (others : List ChoiceTaken) : Type 0 where
  pub all : (send : ℕ) (way : ChoiceTaken) → send < count → IsTrue (are_fit p send call) → way_to p send ≡ Some way → (way ≡ taken) ⊎ Contains others way
  pub each : All (λ way. IsOtherMessage p call taken way) others

-- All other ways of a choice: a send that was buffered could not have been, and the other way
-- round; a call that found a message could have found that of each other rank and tag of a send of
-- the program that fits it.
abbrev pub AreOtherWays : MpiProgram → ℕ → ChoiceTaken → List ChoiceTaken → Type 0
AreOtherWays p call taken.Buffered others = others ≡ taken.NotBuffered ∷ []
AreOtherWays p call taken.NotBuffered others = others ≡ taken.Buffered ∷ []
AreOtherWays p call (taken.Message source tag) others = AreOtherMessages p call (taken.Message source tag) others
