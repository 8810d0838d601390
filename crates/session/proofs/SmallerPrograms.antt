-- A program that was made smaller hangs.
use Rattle.std.proofs.Common.{ℕ, List, inl, inr}
use Rattle.session.specs.Shrinking.{Hangs, IsSmaller}

pub smaller_hangs : (program smaller : List ℕ) → IsSmaller program smaller → Hangs program
smaller_hangs program smaller (inl within) = inl within.0
smaller_hangs program smaller (inr beyond) = inr (beyond.0, beyond.1)
