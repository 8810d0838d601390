-- The text of a formula.
use Rattle.std.specs.Prelude.{codes, ℕ, List, [], ◌∷◌, ◌++◌, length, map}
use Rattle.std.specs.List.{flat_map}
use Rattle.plaintext.specs.Plain.{numeral, line_of}
use Rattle.clauses.specs.Clauses.{Literal, Conjunction}
use Rattle.prooflog.specs.Refutations.{literal_word}

-- A formula's heading is the line `formula V C`, with the numbers of its variables and of its
-- clauses.
abbrev pub formula_heading : ℕ → ℕ → List ℕ
formula_heading variables clauses = line_of (codes "formula" ∷ numeral variables ∷ numeral clauses ∷ [])

-- A clause's line is the word `clause`, and then its literals.
abbrev pub clause_line : List Literal → List ℕ
clause_line clause = line_of (codes "clause" ∷ map literal_word clause)

-- A formula's text is its heading, and then a line for each clause.
abbrev pub formula_text : Conjunction → List ℕ
formula_text f = formula_heading f.variables (length f.clauses) ++ flat_map clause_line f.clauses
