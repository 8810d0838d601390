-- How a race is told: by the lines and the ranks of its calls.
use Rattle.std.specs.Prelude.{ℕ, Bool, true, false, List, ◌++◌, codes, decimal, map, slice_index}
use Rattle.calltext.specs.Grammar.{ProgramText}
use Rattle.callorder.specs.Expansion.{parts_of_text}
use Rattle.scene.specs.Lines.{line_of_part}
use Rattle.deciding.specs.declared.decision.Caller.{Caller}
use Rattle.deciding.specs.declared.decision.CallerRace.{CallerRace}
use Rattle.session.specs.Lines.{object_with}

-- for each call of a text, in order, the number of the line that it stands in, from 1
abbrev pub call_line_numbers : ProgramText → List ℕ
call_line_numbers text = map (line_of_part text) (parts_of_text text)

-- a call, by its line and its rank
abbrev pub caller_words : List ℕ → Caller → List ℕ
caller_words lines call = codes "line " ++ (decimal (slice_index lines call.place) ++ (codes " of rank " ++ decimal call.rank))

-- which call takes any source, what it found, and what may come first
abbrev pub race_sentence : List ℕ → List ℕ → List ℕ → List ℕ
race_sentence finder found other =
    finder ++ (codes " takes any source: it found " ++ (found ++ (codes ", and " ++ (other ++ codes " may come first\n"))))

abbrev pub race_line : List ℕ → CallerRace → List ℕ
race_line lines race = race_sentence (caller_words lines race.finder) (caller_words lines race.found) (caller_words lines race.other)

-- the same as members of JSON objects
abbrev pub call_object : List ℕ → Caller → List ℕ
call_object lines call =
    codes "{\"rank\":" ++ (decimal call.rank ++ (codes ",\"line\":" ++ (decimal (slice_index lines call.place) ++ codes "}")))

abbrev pub race_members : List ℕ → List ℕ → List ℕ → List ℕ
race_members finder found other =
    codes "{\"call\":" ++ (finder ++ (codes ",\"found\":" ++ (found ++ (codes ",\"other\":" ++ (other ++ codes "}")))))

abbrev pub race_object : List ℕ → CallerRace → List ℕ
race_object lines race = race_members (call_object lines race.finder) (call_object lines race.found) (call_object lines race.other)

-- the line that tells a race, and below it the line of its calls; or one JSON object with both
abbrev pub race_text : Bool → List ℕ → CallerRace → List ℕ
race_text false lines race = codes "unknown race\n" ++ race_line lines race
race_text true lines race = object_with (codes "unknown race") 2 (codes "race") (race_object lines race)
