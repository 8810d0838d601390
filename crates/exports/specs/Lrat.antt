-- The text of proof lines in the LRAT format.
use Rattle.std.specs.Prelude.{codes, ℕ, ◌+◌, List, [], ◌∷◌, ◌++◌, map}
use Rattle.plaintext.specs.Plain.{numeral, line_of}
use Rattle.prooflog.specs.Refutations.{literal_word}
use Rattle.refutations.specs.Proofs.{ProofLine}

-- A line is the number of its clause, its literals, a 0, its hints, and a 0.
abbrev pub lrat_line : ℕ → ProofLine → List ℕ
lrat_line number line =
    line_of (numeral number ∷ (map literal_word line.literals ++ codes "0" ∷ (map numeral line.hints ++ codes "0" ∷ [])))

-- A text is a line for each proof line, whose clauses are numbered from a number on.
abbrev pub lrat_text : ℕ → List ProofLine → List ℕ
lrat_text number [] = []
lrat_text number (line ∷ lines) = lrat_line number line ++ lrat_text (number + 1) lines
