-- Which line of a text is wrong first: its lines are taken one after another, and each of them says
-- what may stand behind it.
use Rattle.std.specs.Prelude.{Bool, true, false, not, ◌&&◌, List, [], ◌∷◌}
use Rattle.spmd_text.specs.declared.piece.Piece.{Piece}
use Rattle.spmd_text.specs.declared.piece.Piece.TheVariants as piece
use Rattle.spmd_text.specs.declared.piece.Token.{Token}

-- ---- lines

-- the piece ends a line, or the text
abbrev pub closes : Piece → Bool
closes piece.LineEnd = true
closes piece.TextEnd = true
closes _ = false

-- one line: what ends it stands at its end, and nowhere else in it
abbrev pub is_line : List Token → Bool
is_line [] = false
is_line (t ∷ []) = closes t.piece
is_line (t ∷ u ∷ ts) = not (closes t.piece) && is_line (u ∷ ts)

-- lines, each with its end, or none
abbrev pub are_lines : List Token → Bool
are_lines [] = true
are_lines (t ∷ []) = closes t.piece
are_lines (t ∷ u ∷ ts) = are_lines (u ∷ ts)
