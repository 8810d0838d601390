-- What each seat of a deque has pushed and taken, and how that ties the seats to the cubes in the
-- deque.
use Rattle.std.specs.Prelude.{ℕ, ◌==◌, List, count_by}

-- one part for each thief, and the rest for the owner
abbrev pub all_parts : ℕ
all_parts = 1024

-- how often a cube stands in the list
abbrev pub occurrences : ℕ → List ℕ → ℕ
occurrences cube cubes = count_by (λ x. x == cube) cubes
