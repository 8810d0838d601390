-- Numbers that rise, as they are told: those that follow one another by their ends.
use Rattle.std.specs.Prelude.{codes, ℕ, ◌+◌, ◌==◌, List, [], ◌∷◌, ◌++◌, if◌then◌else◌}
use Rattle.plaintext.specs.Plain.{numeral}

-- numbers that follow one another
pub record Run : Type 0 where
  pub first : ℕ
  pub last : ℕ

-- runs with one more before them, which goes on with the first of them where that begins behind it
abbrev pub before_runs : Run → List Run → List Run
before_runs run [] = run ∷ []
before_runs run (next ∷ runs) = if next.first == run.last + 1 then record { first = run.first; last = next.last } ∷ runs else run ∷ next ∷ runs

-- the runs of the numbers
abbrev pub runs_of : List ℕ → List Run
runs_of [] = []
runs_of (n ∷ ns) = before_runs (record { first = n; last = n }) (runs_of ns)

-- three and more by their ends
abbrev pub run_text : Run → List ℕ
run_text run =
    if run.last == run.first then numeral run.first else
    if run.last == run.first + 1 then numeral run.first ++ (codes ", " ++ numeral run.last) else
    (numeral run.first ++ (codes " to " ++ numeral run.last))

-- each behind a comma
abbrev pub more_text : List Run → List ℕ
more_text [] = []
more_text (run ∷ runs) = codes ", " ++ (run_text run ++ more_text runs)

abbrev pub runs_text : List Run → List ℕ
runs_text [] = []
runs_text (run ∷ runs) = run_text run ++ more_text runs

-- the line that tells which lines are left: `lines left: 1 to 3, 5, 9 to 12`
abbrev pub left_text : List ℕ → List ℕ
left_text numbers = codes "lines left: " ++ (runs_text (runs_of numbers) ++ 10 ∷ [])
