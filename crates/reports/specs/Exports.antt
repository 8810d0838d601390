-- What an exported proof is.
use Rattle.std.specs.Prelude.{◌≡◌, ℕ, ◌+◌, List, ◌++◌, length}
use Rattle.clauses.specs.Clauses.{Conjunction}
use Rattle.refutations.specs.Proofs.{ProofLine}
use Rattle.tree_lines.specs.Joining.{Joins}
use Rattle.prooflog.specs.Refutations.{ClaimedRefutation}
use Rattle.exports.specs.Lrat.{lrat_text}
use Rattle.checker.specs.Verdicts.{AreRefuted}

-- The text is that of a refutation's lines and of further ones, numbered on from the formula's
-- clauses. Each of them derives from the formula and the lines before it, and one has no literals.
pub record IsProofOf (f : Conjunction) (claim : ClaimedRefutation) (text : List ℕ) : Type 0 where
  pub added : List ProofLine
  pub joins : Joins f claim.lines added
  pub is : text ≡ lrat_text (length f.clauses + 1) (claim.lines ++ added)

-- The text is such a proof of the formula of the program of the one text, by the refutation of the
-- other text, which refutes the program.
pub record Exports (program evidence text : List ℕ) : Type 0 where
  pub f : Conjunction
  pub claim : ClaimedRefutation
  pub refuted : AreRefuted program evidence f claim
  pub proof : IsProofOf f claim text
