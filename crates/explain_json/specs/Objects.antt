-- What an object on a deadlock says that is known.
use Rattle.std.specs.Prelude.{◌≡◌, codes, List, [], ◌∷◌, ◌++◌, ℕ}
use Rattle.frequency.specs.declared.judging.Frequency.{Frequency}
use Rattle.frequency.specs.declared.judging.Frequency.TheVariants as frequency

-- in which of the runs that the program's policy allows it gets stuck
abbrev pub runs_word : Frequency → List ℕ
runs_word frequency.Always = codes "every"
runs_word (frequency.Sometimes steps) = codes "some"
runs_word frequency.Unknown = codes "unknown"

-- the beginning of an object, which says that
abbrev pub object_head : Frequency → List ℕ
object_head often = codes "{\"answer\":\"deadlock\",\"status\":1,\"runs\":\"" ++ (runs_word often ++ codes "\",")

-- the end of an object in the list of what decided the run: what is known of it
abbrev pub verdict_member : List ℕ → List ℕ
verdict_member verdict = codes ",\"verdict\":\"" ++ (verdict ++ codes "\"}")

-- objects that end with these verdicts, one behind the other
abbrev pub AreDecided : List (List ℕ) → List ℕ → Type 0
AreDecided [] text = text ≡ []
AreDecided (verdict ∷ verdicts) text = (front : List ℕ) × (below : List ℕ) × AreDecided verdicts below × (text ≡ (front ++ verdict_member verdict) ++ below)

-- the list of what decided the run, between its beginning with the members above it and what stands
-- below it
pub record IsJoined (head above decided text : List ℕ) : Type 0 where
  pub back : List ℕ
  pub is : text ≡ head ++ (above ++ (codes ",\"decided\":[" ++ (decided ++ (codes "]," ++ back))))

-- The object says in which runs the program gets stuck, and has a list of what decided the run,
-- with these verdicts and no other.
pub record IsObject (often : Frequency) (verdicts : List (List ℕ)) (text : List ℕ) : Type 0 where
  pub above : List ℕ
  pub decided : List ℕ
  pub are : AreDecided verdicts decided
  pub joined : IsJoined (object_head often) above decided text
