-- The calls of the span so far have its first one's name, and others the one that they had.
use Rattle.std.proofs.Common.{◌≡◌, ◌<◌, ◌≤◌, ℕ, length}
use Rattle.clocks.specs.parts.Clocks.{block_of}
use Rattle.clocks.proofs.spans.close.Given as goal

abbrev pub invariant-loop-place : goal.invariant-loop-place
invariant-loop-place l =
    (length l.names.items ≡ length l.fn.names.items)
    × ((c : ℕ) → l.span.first < c → c ≤ l.place → block_of l.names.items c ≡ l.span.first)
    × ((c : ℕ) → (l.span.first < c → c ≤ l.place → ⊥) → block_of l.names.items c ≡ block_of l.fn.names.items c)
