-- What is told of a search while it goes on.
use Rattle.std.specs.Prelude.{◌<◌, ◌⊎◌, ◌+◌, ◌*◌, ◌/◌, ◌^◌, ◌==◌, ℕ, min, if◌then◌else◌, List, [], ◌∷◌, ◌++◌, Option, codes, decimal}
use Rattle.std.specs.List.{flat_map}
use Rattle.std.specs.Io.KnownBytes.{Appends}
use Rattle.files.specs.Contents.{AppendsPart}
use Rattle.progress.specs.declared.moment.Moment.{Moment}

-- how many of a hundred parts this part of the whole is, rounded down, and at most all of them; of
-- nothing none
abbrev pub percent : ℕ → ℕ → ℕ
percent part whole = min part whole * 100 / whole

-- how many of a hundred parts of the tree are closed: a cube whose path has d literals is one of 2
-- ^ d parts. Not all of them while a cube is open.
abbrev pub tree_percent : Moment → ℕ
tree_percent m = if m.open == 0 then percent m.share (2 ^ 56) else min (percent m.share (2 ^ 56)) 99

-- how many of a hundred parts of the log are used, which has room for a million lines
abbrev pub log_percent : Moment → ℕ
log_percent m = percent (m.lines + m.set_lines) 1000000

-- what tells how much of the tree is closed, and how much of the budget and of the log is used
abbrev pub shares_text : Moment → List ℕ
shares_text m =
    codes ", " ++ (decimal (tree_percent m) ++ (codes " % of the tree, " ++ (decimal (percent m.used m.budget)
    ++ (codes " % of the budget, " ++ (decimal (log_percent m) ++ codes " % of the log\n")))))

-- the line that tells that there is no formula yet
abbrev pub forming_line : ℕ → List ℕ
forming_line seconds = codes "progress " ++ (decimal seconds ++ codes " s: runs are tried, and the formula is made\n")

-- the line that tells how many clauses the formula has
abbrev pub formed_line : ℕ → ℕ → List ℕ
formed_line seconds clauses =
    codes "progress " ++ (decimal seconds ++ (codes " s: the formula has " ++ (decimal clauses ++ codes " clauses, and is searched next\n")))

-- the line that tells how far the workers are
abbrev pub search_line : Moment → List ℕ
search_line m =
    codes "progress " ++ (decimal m.seconds ++ (codes " s: " ++ (decimal m.open ++ (codes " cubes open, " ++ (decimal m.closed
    ++ (codes " closed, " ++ (decimal m.lines ++ (codes " lines, " ++ (decimal m.conflicts ++ (codes " conflicts, " ++ (decimal m.set_lines
    ++ (codes " set lines" ++ shares_text m))))))))))))

-- the line that tells how far a search is at a moment
abbrev pub moment_line : Moment → List ℕ
moment_line m =
    if m.is_begun then search_line m else (if m.clauses == 0 then forming_line m.seconds else formed_line m.seconds m.clauses)

-- more seconds have passed than these at the first of some moments, and at each other one more than
-- at the one before it
abbrev pub Rises : ℕ → List Moment → Type 0
Rises seconds [] = Unit {0}
Rises seconds (moment ∷ later) = (seconds < moment.seconds) × Rises moment.seconds later

-- the text is written, or a beginning of it where the output failed
abbrev pub AppendsAtMost : Option (List ℕ) → Option (List ℕ) → List ℕ → Type 0
AppendsAtMost told_old told_new text = Appends told_old told_new text ⊎ AppendsPart told_old told_new text

-- moments of a search, each with more whole seconds than the one before it, are told by their lines
abbrev pub TellsProgress : Option (List ℕ) → Option (List ℕ) → Type 0
TellsProgress told_old told_new = (moments : List Moment) × Rises 0 moments × AppendsAtMost told_old told_new (flat_map moment_line moments)
