-- What inner functions promise one another, beside `specs/Programs.antt`.
use Rattle.std.specs.Prelude.{◌≡◌, ℕ, ◌+◌, List, [], ◌∷◌, ◌++◌, map}
use Rattle.std.specs.List.{AllByRecursion}
use Rattle.std.specs.Global.{Vec}
use Rattle.calltext.specs.declared.call.CallLine.{CallLine}
use Rattle.calltext.specs.Grammar.{CallFits, long}
use Rattle.calltext.specs.parts.Body.{rank_text, ranks_text}
use Rattle.unroll.specs.declared.call.Placed.{Placed}
use Rattle.spmd_program.specs.Lines.{lines_of_calls}

-- the lists have the calls of one rank each, from this rank on
abbrev pub AreOfRanks : ℕ → List (List Placed) → Type 0
AreOfRanks rank [] = Unit {0}
AreOfRanks rank (part ∷ others) = AllByRecursion (λ p. p.rank ≡ rank) part × AreOfRanks (rank + 1) others

-- a rank's heading and these lines are written behind a text, and can be read again
pub record IsRankWritten (rank : ℕ) (lines : List CallLine) (old new : List ℕ) : Type 0 where
  pub text : new ≡ old ++ rank_text rank lines
  pub fit : AllByRecursion (CallFits long) lines

-- so are the ranks of a program from rank 0 on, whose calls are these lists
pub record AreRanksWritten (names : List (Vec ℕ)) (parts : List (List Placed)) (old new : List ℕ) : Type 0 where
  pub own : AreOfRanks 0 parts
  pub text : new ≡ old ++ ranks_text 0 (map (λ part. lines_of_calls names part) parts)
  pub fit : AllByRecursion (λ part. AllByRecursion (CallFits long) (lines_of_calls names part)) parts
