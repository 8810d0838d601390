use Rattle.std.proofs.Common.{◌≡◌, ℕ, ◌+◌, length}
use Rattle.clocks.specs.parts.Finders.{AreCoversOf, IsCover}
use Rattle.clocks.proofs.finders.covers_of.Given as goal

abbrev pub invariant-loop-place : goal.invariant-loop-place
invariant-loop-place l =
    record {
      size : length l.covers.items ≡ l.place;
      are : AreCoversOf l.columns l.group l.covers.items;
      now : (i : ℕ) → i + 1 ≡ l.place → IsCover l.columns l.group i l.whole;
    }
