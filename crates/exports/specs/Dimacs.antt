-- The text of a program's formula in the DIMACS format. Calls are numbered from 1, their places
-- plus 1; ranks from 0.
use Rattle.std.specs.Prelude.{codes, ℕ, ◌+◌, Bool, true, false, List, [], ◌∷◌, ◌++◌, length, map}
use Rattle.std.specs.List.{flat_map}
use Rattle.callorder.specs.Programs.{MpiProgram, is_probe}
use Rattle.plaintext.specs.Plain.{numeral, line_of}
use Rattle.clauses.specs.Clauses.{Literal, Conjunction}
use Rattle.formula.specs.declared.facts.RunEvent.{RunEvent}
use Rattle.formula.specs.declared.facts.RunEvent.TheVariants.{Issue as issue_of, Match as match_of}
use Rattle.formula.specs.declared.facts.Fact.{Fact}
use Rattle.formula.specs.declared.facts.Fact.TheVariants.{Issued as issued, Buffered as buffered, Matched as matched, Unfinished as unfinished}
use Rattle.formula.specs.declared.facts.Meaning.{Meaning}
use Rattle.formula.specs.declared.facts.Meaning.TheVariants.{OfFact as fact, ClockBit as clock_bit, Before as before, SameBits as same_bits}
use Rattle.formula.specs.Families.{event_at}
use Rattle.formula.specs.Numbering.{meanings, formula_of}
use Rattle.prooflog.specs.Refutations.{literal_word}
use Rattle.prooflog.specs.Reading.{find_word}

-- An event's words are `issue C`, `match T` with the taker, or `see P` with the probe.
abbrev pub event_words : MpiProgram → RunEvent → List (List ℕ)
event_words p (issue_of c) = codes "issue" ∷ numeral (c + 1) ∷ []
event_words p (match_of f) = find_word (is_probe p f) ∷ numeral (f + 1) ∷ []

-- The word of a send that was found is `seen` where a probe has seen it, and `matched` where it is
-- matched with a taker.
abbrev pub found_word : Bool → List ℕ
found_word true = codes "seen"
found_word false = codes "matched"

-- A fact's words are `issued C`, `buffered C`, `matched S T` with the send and the taker,
-- `unfinished R` with the rank, or `seen S P` with the send and the probe.
abbrev pub fact_words : MpiProgram → Fact → List (List ℕ)
fact_words p (issued c) = codes "issued" ∷ numeral (c + 1) ∷ []
fact_words p (buffered c) = codes "buffered" ∷ numeral (c + 1) ∷ []
fact_words p (matched s f) = found_word (is_probe p f) ∷ numeral (s + 1) ∷ numeral (f + 1) ∷ []
fact_words p (unfinished r) = codes "unfinished" ∷ numeral r ∷ []

-- What a variable stands for: a fact; `bit I of EVENT`, the bit at place I of the event's clock,
-- from 1 for the highest; `EVENT before EVENT`; or `N equal bits of EVENT and EVENT`, where the two
-- clocks begin with so many equal bits.
abbrev pub meaning_words : MpiProgram → Meaning → List (List ℕ)
meaning_words p (fact a) = fact_words p a
meaning_words p (clock_bit e i) = codes "bit" ∷ numeral (i + 1) ∷ codes "of" ∷ event_words p (event_at p e)
meaning_words p (before e f) = event_words p (event_at p e) ++ codes "before" ∷ event_words p (event_at p f)
meaning_words p (same_bits e f n) =
    numeral n ∷ codes "equal" ∷ codes "bits" ∷ codes "of" ∷ (event_words p (event_at p e) ++ codes "and" ∷ event_words p (event_at p f))

-- A comment line's words are `c`, a variable's number, and what the variable stands for.
abbrev pub comment_line : MpiProgram → ℕ → Meaning → List ℕ
comment_line p number m = line_of (codes "c" ∷ numeral number ∷ meaning_words p m)

-- The comment lines of variables that are numbered from a number on.
abbrev pub comment_lines : MpiProgram → ℕ → List Meaning → List ℕ
comment_lines p number [] = []
comment_lines p number (m ∷ ms) = comment_line p number m ++ comment_lines p (number + 1) ms

-- A formula's heading is the line `p cnf V C`, with the numbers of its variables and of its
-- clauses.
abbrev pub dimacs_heading : ℕ → ℕ → List ℕ
dimacs_heading variables clauses = line_of (codes "p" ∷ codes "cnf" ∷ numeral variables ∷ numeral clauses ∷ [])

-- A clause's line is its literals and a 0.
abbrev pub dimacs_clause : List Literal → List ℕ
dimacs_clause clause = line_of (map literal_word clause ++ codes "0" ∷ [])

-- A formula's text is its heading, and then a line for each clause.
abbrev pub dimacs_formula : Conjunction → List ℕ
dimacs_formula f = dimacs_heading f.variables (length f.clauses) ++ flat_map dimacs_clause f.clauses

-- A program's text is a comment line for each variable of its formula, and then the formula.
abbrev pub dimacs_text : MpiProgram → List ℕ
dimacs_text p = comment_lines p 1 (meanings p) ++ dimacs_formula (formula_of p)
