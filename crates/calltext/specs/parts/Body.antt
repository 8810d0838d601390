-- What inner functions promise one another, beside `specs/Body.antt`.
use Rattle.std.specs.Prelude.{◌≡◌, ℕ, ◌+◌, ◌<◌, ◌≤◌, List, [], ◌∷◌, ◌++◌, length, ⊤}
use Rattle.std.specs.List.{AllByRecursion, flat_map}
use Rattle.plaintext.specs.Plain.{line_of, text_lines}
use Rattle.calltext.specs.declared.call.CallLine.{CallLine}
use Rattle.calltext.specs.declared.line.CallLineFault.{CallLineFault}
use Rattle.calltext.specs.declared.line.CallLineFault.TheVariants as wrong
use Rattle.calltext.specs.Grammar.{rank_words, rank_lines, CallFits, call_words, ranks_words, policy_words}
use Rattle.calltext.specs.parts.Item.{IsWrong}
use Rattle.calltext.specs.declared.limits.Limits.{Limits}
use Rattle.calltext.specs.declared.call.Policy.{Policy}

-- A rank's heading and its call lines.
abbrev pub rank_text : ℕ → List CallLine → List ℕ
rank_text r calls = line_of (rank_words r) ++ flat_map (λ c. line_of (call_words c)) calls

-- The ranks from a number on.
abbrev pub ranks_text : ℕ → List (List CallLine) → List ℕ
ranks_text r [] = []
ranks_text r (calls ∷ others) = rank_text r calls ++ ranks_text (r + 1) others

-- The two headings.
abbrev pub heads : ℕ → Policy → List ℕ
heads n policy = line_of (ranks_words n) ++ line_of (policy_words policy)

-- The bytes are the rest of a text of so many ranks, which have these call lines.
pub record HasRanks (l : Limits) (total : ℕ) (bytes : List ℕ) (ranks : List (List CallLine)) : Type 0 where
  pub cut : line_of (rank_words 0) ∷ text_lines bytes ≡ rank_lines 0 ranks ++ [] ∷ []
  pub count : length ranks ≡ total
  pub fit : AllByRecursion (AllByRecursion (CallFits l)) ranks

-- The lines begin as those of these ranks, and then comes a line, of this number, that is wrong
-- there.
pub record StopsAt (l : Limits) (fault : CallLineFault) (number total : ℕ) (bytes : List ℕ) : Type 0 where
  pub done : List (List CallLine)
  pub line : List ℕ
  pub after : List (List ℕ)
  pub some : 0 < length done
  pub within : length done ≤ total
  pub fit : AllByRecursion (AllByRecursion (CallFits l)) done
  pub cut : line_of (rank_words 0) ∷ text_lines bytes ≡ rank_lines 0 done ++ line ∷ after
  pub place : number ≡ 3 + length (rank_lines 0 done)
  pub why : IsWrong l fault (length done) total line
  pub early : line ≡ [] → length done < total

-- Reading the ranks stopped for this reason: want of memory, or a line that is wrong.
abbrev pub IsStopped : Limits → CallLineFault → ℕ → ℕ → List ℕ → Type 0
IsStopped l wrong.Memory number total bytes = ⊤
IsStopped l fault number total bytes = StopsAt l fault number total bytes
