-- Which lines of a text are left in a smaller one.
use Rattle.std.specs.Prelude.{codes, ◌≡◌, ◌≢◌, ◌⊎◌, ◌<◌, ◌≤◌, ◌-◌, ℕ, Bool, true, false, ◌||◌, ◌==◌, IsTrue, List, [], ◌∷◌, get_or, length}
use Rattle.std.specs.List.{slice_split}
use Rattle.plaintext.specs.Plain.{numeral}
use Rattle.calltext.specs.Verbs.{verb_word}
use Rattle.calltext.specs.declared.verb.Verb.{Verb}
use Rattle.calltext.specs.declared.verb.Verb.TheVariants as verbs
use Rattle.shrinking.specs.Shrinking.{count_lines}

-- ---- places of ranks

-- behind a name, where there is one, else at once
abbrev pub is_first_at : Bool → ℕ → Bool
is_first_at true place = place == 2
is_first_at false place = place == 1

-- whether a call line that begins with this verb names a rank at this place among its words, from 0
abbrev pub ranks_at : Verb → ℕ → Bool
ranks_at (verbs.Send mode started) place = is_first_at started place
ranks_at (verbs.Receive started) place = is_first_at started place
ranks_at verbs.MatchedProbe place = place == 2
ranks_at verbs.Probe place = place == 1
ranks_at (verbs.MatchedReceive started) place = false
ranks_at verbs.Wait place = false
ranks_at verbs.WaitAll place = false
ranks_at verbs.SendReceive place = place == 1 || place == 3

-- a line that begins with this word names a rank at this place, or how many ranks there are: a call
-- line as its verb says, and a heading behind its first word
abbrev pub IsRankPlace : List ℕ → ℕ → Type 0
IsRankPlace first place =
    ((verb : Verb) × (verb_word verb ≡ first) × IsTrue (ranks_at verb place))
    ⊎ (((verb : Verb) → verb_word verb ≢ first) × (place ≡ 1))

-- ---- words

abbrev pub IsNumeral : List ℕ → Type 0
IsNumeral word = (n : ℕ) × (numeral n ≡ word)

-- at this place of a line that begins with this word the one word may stand for the other: it is
-- the same, or both are numbers of ranks
abbrev pub IsSameWord : List ℕ → ℕ → List ℕ → List ℕ → Type 0
IsSameWord first place old new = (old ≡ new) ⊎ (IsRankPlace first place × IsNumeral old × IsNumeral new)

-- the words are the same, but for numbers of ranks
pub record AreRenumbered (olds news : List (List ℕ)) : Type 0 where
  pub as_many : length news ≡ length olds
  pub words : (place : ℕ) → place < length news → IsSameWord (get_or news 0 []) place (get_or olds place []) (get_or news place [])
  pub first : get_or olds 0 [] ≡ get_or news 0 []

-- some of the words, in their order
pub data AreSome : List (List ℕ) → List (List ℕ) → Type 0 where
  none : AreSome [] []
  kept : (word : List ℕ) (olds news : List (List ℕ)) → AreSome olds news → AreSome (word ∷ olds) (word ∷ news)
  left_out : (word : List ℕ) (olds news : List (List ℕ)) → AreSome olds news → AreSome (word ∷ olds) news

-- a wait for some of the requests that the other one waits for, in their order
pub record IsShorterWait (olds news : List (List ℕ)) : Type 0 where
  pub others : AreSome olds news
  pub waits : get_or olds 0 [] ≡ codes "waitall"
  pub still : get_or news 0 [] ≡ codes "waitall"

abbrev pub words_in : List ℕ → List (List ℕ)
words_in line = slice_split (λ byte. byte == 32) line

-- the line has the words of the other one, but for numbers of ranks, and for requests that a wait
-- for several doesn't name any more
abbrev pub IsLineLeft : List ℕ → List ℕ → Type 0
IsLineLeft old new = AreRenumbered (words_in old) (words_in new) ⊎ IsShorterWait (words_in old) (words_in new)

-- ---- lines

-- the lines of a text, without their LFs, and what follows the last LF
abbrev pub lines_in : List ℕ → List (List ℕ)
lines_in text = slice_split (λ byte. byte == 10) text

-- at this place, from 0, the smaller text has what is left of the line of the given one whose
-- number, from 1, stands there; and that number is above those before it
pub record IsLeftAt (given text numbers : List ℕ) (place : ℕ) : Type 0 where
  pub rises : get_or (0 ∷ numbers) place 0 < get_or numbers place 0
  pub within : get_or numbers place 0 ≤ count_lines given
  pub line : IsLineLeft (get_or (lines_in given) (get_or numbers place 0 - 1) []) (get_or (lines_in text) place [])

-- the numbers, from 1, of the lines of the given text that the lines of the smaller one are left of
pub record AreLeft (given text numbers : List ℕ) : Type 0 where
  pub count : length numbers ≡ count_lines text
  pub each : (place : ℕ) → place < length numbers → IsLeftAt given text numbers place
