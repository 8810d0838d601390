-- Numbers of lines, in four bytes.
use Rattle.std.specs.Prelude.{ℕ, ◌+◌, ◌-◌, min}

-- the number of the line at a place of the log, from 0, after so many clauses; numbers that are too
-- large stand for one another
abbrev pub capped_place : ℕ → ℕ → ℕ
capped_place clauses place = min (clauses + place + 1) 4294967295

-- the place in the log, from 0, of the line with this number, after so many clauses; 0 for the
-- number of a clause
abbrev pub log_place_of : ℕ → ℕ → ℕ
log_place_of clauses number = number - clauses - 1
