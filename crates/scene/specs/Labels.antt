-- How the calls of a program are told: by number, rank, line, and the words of the line; and what
-- the steps of a run do, with the calls that they are about.
use Rattle.std.specs.Prelude.{codes, ℕ, zero, suc, ◌+◌, ◌-◌, ◌==◌, nat_le, if◌then◌else◌, List, [], ◌∷◌, ◌++◌, length, map, reverse, take, take_while, Option, Some, None, slice_get, slice_index, unwrap_or}
use Rattle.std.specs.List.{slice_split, starts_with}
use Rattle.calltext.specs.Grammar.{ProgramText}
use Rattle.callorder.specs.declared.calls.Call.{Call}
use Rattle.callorder.specs.Expansion.{parts_of_text}
use Rattle.callorder.specs.Programs.{MpiProgram}
use Rattle.scene.specs.Lines.{line_of_part}
use Rattle.semantics.specs.declared.state.Step.{Step}
use Rattle.semantics.specs.declared.state.Step.TheVariants.{Issue, Match, See}
use Rattle.semantics.specs.Machine.{Configuration, after}
use Rattle.scene.specs.declared.acts.Act.{Act}
use Rattle.scene.specs.declared.acts.Act.TheVariants as act

-- a call as it is told: its number, from 1, its rank, from 0, the number of its line, from 1, and
-- the words of that
pub record Label : Type 0 where
  pub number : ℕ
  pub rank : ℕ
  pub line : ℕ
  pub words : List ℕ

-- for each call of a program, in order, the number of the line of the text that it stands in, from
-- 1
abbrev pub numbers_of : ProgramText → List ℕ
numbers_of source = map (line_of_part source) (parts_of_text source)

-- the line with this number, from 1; nothing where there is none
abbrev pub line_at : List (List ℕ) → ℕ → List ℕ
line_at lines number = unwrap_or (slice_get lines (number - 1)) []

-- words of at most so many characters; what is longer is cut, and ends with two dots
abbrev pub shortened : ℕ → List ℕ → List ℕ
shortened most words = if nat_le (length words) most then words else take (most - 2) words ++ codes ".."

-- which part of a `sendrecv` its first call is, its second, and so on
abbrev pub part_of : ℕ → List ℕ
part_of place =
    if place == 0 then codes ", its send" else if place == 1 then codes ", its receive" else if place == 2 then codes ", wait for its send" else codes ", wait for its receive"

-- what stands behind the words of a line, for a call with so many calls of the line before it
abbrev pub part_words : List ℕ → ℕ → List ℕ
part_words line place = if starts_with (λ x y. x == y) line (codes "sendrecv ") then part_of place else []

-- how many calls right before this one stand in its line
abbrev pub earlier : List ℕ → ℕ → ℕ
earlier numbers place = length (take_while (λ number. number == slice_index numbers place) (reverse (take place numbers)))

-- the call at a place, of this rank, where the text has these lines, and the calls stand in the
-- lines with these numbers
abbrev pub label_at : List (List ℕ) → List ℕ → ℕ → ℕ → Label
label_at lines numbers place rank =
    record {
      number = place + 1;
      rank = rank;
      line = slice_index numbers place;
      words = shortened 60 (line_at lines (slice_index numbers place)) ++ part_words (line_at lines (slice_index numbers place)) (earlier numbers place);
    }

abbrev pub caller_rank : Option Call → ℕ
caller_rank None = 0
caller_rank (Some call) = call.rank

-- the first calls, so many, as they are told
abbrev pub labels : List (List ℕ) → List ℕ → List Call → ℕ → List Label
labels lines numbers calls zero = []
labels lines numbers calls (suc place) =
    labels lines numbers calls place ++ label_at lines numbers place (caller_rank (slice_get calls place)) ∷ []

-- the calls of a program, in order, as they are told
abbrev pub call_labels : List ℕ → ProgramText → MpiProgram → List Label
call_labels text source p = labels (slice_split (λ b. b == 10) text) (numbers_of source) p.calls (length p.calls)

-- what a step does in a configuration: an issue is that of the rank's next call
abbrev pub act_of : Configuration → Step → Act
act_of m (Issue rank buffered) = act.Issue (slice_index m.next rank) buffered
act_of m (Match s t) = act.Match s t
act_of m (See s f) = act.See s f

-- what steps do, from a configuration on
abbrev pub acts_from : Configuration → List Step → List Act
acts_from m [] = []
acts_from m (step ∷ steps) = act_of m step ∷ acts_from (after m step) steps
