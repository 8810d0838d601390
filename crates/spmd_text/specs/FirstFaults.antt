-- Which pieces are a text that can be read, and which line is the first that no text has.
use Rattle.std.specs.Prelude.{◌≡◌, ℕ, true, List, [], ◌∷◌, ◌++◌, Option, Some, None, slice_get}
use Rattle.std.specs.Global.{Vec}
use Rattle.spmd_tree.specs.declared.tree.SpmdStatement.{SpmdStatement}
use Rattle.spmd_text.specs.declared.piece.Piece.{Piece}
use Rattle.spmd_text.specs.declared.piece.Piece.TheVariants as piece
use Rattle.spmd_text.specs.declared.piece.Token.{Token}
use Rattle.spmd_text.specs.declared.reading.SpmdPolicy.{SpmdPolicy}
use Rattle.spmd_text.specs.Statements.{line_of_first_piece}
use Rattle.spmd_text.specs.Programs.{SaysProgram}
use Rattle.spmd_text.specs.Lines.{are_lines, is_line}

-- some tree is written as these pieces, and keeps the rules and limits
pub record AreReadablePieces (names : List (Vec ℕ)) (tokens : List Token) : Type 0 where
  pub policy : SpmdPolicy
  pub program : SpmdStatement
  pub says : SaysProgram names tokens policy program

abbrev pub letters_if_there : Option (Vec ℕ) → Option (List ℕ)
letters_if_there None = None
letters_if_there (Some name) = Some name.items

abbrev pub IsAlike : List (Vec ℕ) → List (Vec ℕ) → Piece → Type 0
IsAlike names others (piece.Name k) = letters_if_there (slice_get names k) ≡ letters_if_there (slice_get others k)
IsAlike names others p = Unit {0}

-- the names that stand in these pieces are the same in both lists
abbrev pub AreAlike : List (Vec ℕ) → List (Vec ℕ) → List Token → Type 0
AreAlike names others [] = Unit {0}
AreAlike names others (t ∷ ts) = IsAlike names others t.piece × AreAlike names others ts

-- The line of this number is the first one that is wrong: the lines before it are the beginning of
-- some text that can be read; with it they are the beginning of none, whatever stands behind it and
-- whatever other names stand there.
pub record IsFirstWrongLine (names : List (Vec ℕ)) (tokens : List Token) (number : ℕ) : Type 0 where
  pub before : List Token
  pub bad : List Token
  pub beyond : List Token
  pub split : tokens ≡ before ++ bad ++ beyond
  pub whole : are_lines before ≡ true
  pub one : is_line bad ≡ true
  pub told : number ≡ line_of_first_piece bad
  pub some : (other : List Token) × AreReadablePieces names (before ++ other)
  pub none : (others : List (Vec ℕ)) (other : List Token) → AreAlike names others (before ++ bad) → AreReadablePieces others (before ++ bad ++ other) → ⊥
