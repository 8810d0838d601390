-- The lines of a program's text that its calls stand in.
use Rattle.std.specs.Prelude.{◌≡◌, ℕ, ◌+◌, List, length, take, Some, slice_get}
use Rattle.std.specs.List.{sum_by}
use Rattle.plaintext.specs.Plain.{line_of}
use Rattle.calltext.specs.declared.call.CallLine.{CallLine}
use Rattle.calltext.specs.Grammar.{ProgramText, call_words, program_lines}
use Rattle.callorder.specs.Expansion.{NamedPart}

-- The number, from 1, of a rank's heading: two lines stand before the ranks, and each rank has its
-- heading and its call lines.
abbrev pub heading_of : ProgramText → ℕ → ℕ
heading_of text rank = 3 + rank + sum_by length (take rank text.ranks)

-- the number, from 1, of the line that a call of an expansion stands in
abbrev pub line_of_part : ProgramText → NamedPart → ℕ
line_of_part text x = heading_of text x.part.rank + x.part.place

-- The line at place `place`, from 0, of a rank is the line of the text with the number that its
-- calls have, here from 0.
abbrev pub LinesAreNumbered : Type 0
LinesAreNumbered =
    (text : ProgramText) (rank place : ℕ) (lines : List CallLine) (line : CallLine) → slice_get text.ranks rank ≡ Some lines
    → slice_get lines place ≡ Some line → slice_get (program_lines text) (heading_of text rank + place) ≡ Some (line_of (call_words line))
