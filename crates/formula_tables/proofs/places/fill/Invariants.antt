use Rattle.std.proofs.Common.{◌≡◌, ℕ, ◌+◌, ◌<◌, ◌≤◌, length, get_or, drop}
use Rattle.formula_tables.specs.Places.{first_place}
use Rattle.formula_tables.proofs.places.fill.Given as goal

abbrev pub invariant-loop-place : goal.invariant-loop-place
invariant-loop-place l =
    record {
      within : l.place ≤ length l.numbers;
      size : length l.firsts ≡ length l.initial.firsts;
      first : (k : ℕ) → k < length l.firsts → get_or l.firsts k 0 ≡ l.place + first_place k (drop l.place l.numbers);
    }

abbrev pub decreases-loop-place : goal.decreases-loop-place
decreases-loop-place l = l.place
