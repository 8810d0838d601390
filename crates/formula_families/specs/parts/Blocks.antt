-- What inner functions promise one another, beside `specs/SymbolicBlocks.antt`.
use Rattle.std.specs.Prelude.{ℕ, List, [], map, ◌≡◌, ◌+◌, ◌*◌, ◌<◌, Bool, false, if◌then◌else◌, get_or}
use Rattle.std.specs.List.{range_with_len, flat_map}
use Rattle.callorder.specs.Programs.{MpiProgram}
use Rattle.formula.specs.declared.families.Family.{Family}
use Rattle.formula.specs.Families.{SymbolicClause, SymbolicBlocks, by_pair, by_see, family_of}
use Rattle.formula_families.specs.declared.families.Block.{Block}
use Rattle.formula_families.specs.Blocks.{size_of, clauses_of}
use Rattle.formula.specs.Orders.{is_among, places_in}

-- what is said of a pair, whatever it is
abbrev pub said_of_pair : MpiProgram → SymbolicBlocks → ℕ × ℕ → List SymbolicClause
said_of_pair p (by_pair clauses) pair = clauses p pair.0 pair.1
said_of_pair p (by_see clauses) pair = clauses p pair.0 pair.1
said_of_pair p other pair = []

-- a block by its parts
abbrev pub block : Family → ℕ → Block
block family place = record { family = family; place = place }

-- the blocks of a family
abbrev pub blocks_of : MpiProgram → Family → List Block
blocks_of p family = map (block family) (range_with_len 0 (size_of p family))

-- of two of so many places, the table tells whether they are among these pairs, either way round
abbrev pub AreMarks : ℕ → List (ℕ × ℕ) → List Bool → Type 0
AreMarks most orders marks =
    (e f : ℕ) → e < most → f < most → get_or marks (e * most + f) false ≡ is_among orders (e, f)

-- the places of the events of which the clauses of a block say that the first is earlier
abbrev pub orders_of : MpiProgram → Block → List (ℕ × ℕ)
orders_of p b = flat_map (flat_map (places_in p)) (clauses_of p b)

-- the same of all blocks of a family that states an order
abbrev pub orders_of_family : MpiProgram → Family → List (ℕ × ℕ)
orders_of_family p family = if (family_of family).states_order then flat_map (orders_of p) (blocks_of p family) else []
