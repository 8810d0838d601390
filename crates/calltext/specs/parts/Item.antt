-- What one line is, and what is wrong with it in its place.
use Rattle.std.specs.Prelude.{◌≡◌, ◌≢◌, ℕ, ◌<◌, ◌≤◌, List, ◌∷◌, length, ⊤}
use Rattle.std.specs.Str.{IsAscii, IsNotAscii}
use Rattle.plaintext.specs.Plain.{line_of, text_lines}
use Rattle.calltext.specs.Grammar.{CallFits, HasNames, IsInRange, call_words, rank_words, ranks_words, policy_words}
use Rattle.calltext.specs.RefusedWords.{refused_word, refused_words}
use Rattle.calltext.specs.declared.call.CallLine.{CallLine}
use Rattle.calltext.specs.declared.call.Policy.{Policy}
use Rattle.calltext.specs.declared.line.Item.{Item}
use Rattle.calltext.specs.declared.line.Item.TheVariants as items
use Rattle.calltext.specs.declared.line.CallLineFault.{CallLineFault}
use Rattle.calltext.specs.declared.line.CallLineFault.TheVariants as wrong
use Rattle.calltext.specs.declared.limits.Limits.{Limits}

-- ---- once the first rank has begun

-- The line is this call's, or the heading of the next rank, of so many in all.
abbrev pub IsItem : Limits → Item → ℕ → ℕ → List ℕ → Type 0
IsItem l (items.Call c) next total line = CallFits l c × (line_of (call_words c) ≡ line)
IsItem l items.Rank next total line = (next < total) × (line_of (rank_words next) ≡ line)

-- The line's first word is the one at this place of the list of words that are refused by name.
abbrev pub IsRefused : ℕ → List ℕ → Type 0
IsRefused place line = (place < length refused_words) × (others : List (List ℕ)) × (line ≡ line_of (refused_word place ∷ others))

-- Why the line is neither a call's within the limits nor the next rank's heading.
abbrev pub IsWrong : Limits → CallLineFault → ℕ → ℕ → List ℕ → Type 0
IsWrong l wrong.Memory next total line = ⊤
IsWrong l wrong.NotAscii next total line = IsNotAscii line
IsWrong l wrong.Syntax next total line = IsAscii line × ((c : CallLine) → HasNames c → line_of (call_words c) ≢ line) × (next < total → line_of (rank_words next) ≢ line) × ((place : ℕ) → IsRefused place line → ⊥)
IsWrong l (wrong.OutOfProfile place) next total line = IsAscii line × ((c : CallLine) → HasNames c → line_of (call_words c) ≢ line) × (next < total → line_of (rank_words next) ≢ line) × IsRefused place line
IsWrong l wrong.Range next total line = IsAscii line × (c : CallLine) × HasNames c × (line_of (call_words c) ≡ line) × (IsInRange l c → ⊥)

-- ---- the three lines that a text begins with

-- The line names a number of ranks.
abbrev pub IsRanksLine : List ℕ → Type 0
IsRanksLine line = (n : ℕ) × (line_of (ranks_words n) ≡ line)

-- The line names one rank or more, and no more than the limits allow.
abbrev pub AreRanksWithin : Limits → List ℕ → Type 0
AreRanksWithin l line = (n : ℕ) × (1 ≤ n) × (n ≤ l.ranks) × (line_of (ranks_words n) ≡ line)

-- The line names a policy.
abbrev pub IsPolicyLine : List ℕ → Type 0
IsPolicyLine line = (p : Policy) × (line_of (policy_words p) ≡ line)

-- The line is the heading of rank 0.
abbrev pub IsFirstRankLine : List ℕ → Type 0
IsFirstRankLine line = line_of (rank_words 0) ≡ line

-- What is wrong with a line that lacks its LF.
abbrev pub IsUnended : CallLineFault → List ℕ → Type 0
IsUnended wrong.NotAscii line = IsNotAscii line
IsUnended wrong.Syntax line = IsAscii line
IsUnended other line = ⊥

-- What is wrong with a line that is to have this shape, within these limits.
abbrev pub IsWrongHeading : (List ℕ → Type 0) → (List ℕ → Type 0) → CallLineFault → List ℕ → Type 0
IsWrongHeading shape within wrong.Memory line = ⊤
IsWrongHeading shape within wrong.NotAscii line = IsNotAscii line
IsWrongHeading shape within wrong.Syntax line = IsAscii line × (shape line → ⊥)
IsWrongHeading shape within (wrong.OutOfProfile place) line = ⊥
IsWrongHeading shape within wrong.Range line = IsAscii line × shape line × (within line → ⊥)

-- The bytes' first line is wrong in this way.
abbrev pub BeginsWrong : (List ℕ → Type 0) → (List ℕ → Type 0) → CallLineFault → List ℕ → Type 0
BeginsWrong shape within fault bytes = (line : List ℕ) × (after : List (List ℕ)) × (text_lines bytes ≡ line ∷ after) × IsWrongHeading shape within fault line
