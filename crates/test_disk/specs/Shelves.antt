-- What the files of a shelf hold.
use Rattle.std.specs.Prelude.{ℕ, List, Option, None, Some, if◌then◌else◌, codes}
use Rattle.std.specs.Prelude.{bytes_eq}

-- the bytes of the file at a path: of the program, of the evidence, or of what was written and
-- closed
abbrev pub shelf_file : List ℕ → List ℕ → Option (List ℕ) → List ℕ → Option (List ℕ)
shelf_file program evidence out path =
    if bytes_eq path (codes "program") then Some program
    else (if bytes_eq path (codes "evidence") then Some evidence
    else (if bytes_eq path (codes "out") then out else None))
