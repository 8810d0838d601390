-- What inner functions promise one another, beside `specs/Pieces.antt`.
use Rattle.std.specs.Prelude.{◌≡◌, ◌<◌, ℕ, Bool, true, false, List, [], ◌∷◌, length, Ok, Err, if◌then◌else◌, slice_index_or}
use Rattle.std.specs.List.{list_any}
use Rattle.clauses.specs.Clauses.{Conjunction}
use Rattle.refutations.specs.Proofs.{ProofLine}
use Rattle.pieces.specs.declared.piece.LinesFault.TheVariants.{Memory, Line}
use Rattle.pieces.specs.Pieces.{Answer, OfPiece}

-- the answers on all pieces, in their order
pub record AreOfPieces (f : Conjunction) (lines : List ProofLine) (pieces : ℕ) (answers : List Answer) : Type 0 where
  pub count : length answers ≡ pieces
  pub each : (piece : ℕ) (d : Answer) → piece < pieces → OfPiece f lines pieces piece (slice_index_or answers piece d)

abbrev pub is_memory : Answer → Bool
is_memory (Err Memory) = true
is_memory (Err (Line found)) = false
is_memory (Ok u) = false

abbrev pub first_fault : List Answer → Answer
first_fault [] = Ok tt
first_fault (Ok u ∷ answers) = first_fault answers
first_fault (Err fault ∷ answers) = Err fault

-- want of memory where any piece met it, else the first fault
abbrev pub joined_answers : List Answer → Answer
joined_answers answers = if list_any is_memory answers then Err Memory else first_fault answers
