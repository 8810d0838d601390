-- Which literals a clause keeps.
use Rattle.std.specs.Prelude.{◌≤◌, List, take}
use Rattle.clauses.specs.Clauses.{Literal}
use Rattle.clauses.specs.declared.storage.Storage.{Storage}
use Rattle.clauses.specs.declared.storage.Storage.TheVariants.{Short, Long}

-- the literals that are kept
abbrev pub literals_in : Storage → List Literal
literals_in (Short len literals) = take len literals
literals_in (Long literals) = literals

-- no more literals stand in place than there is room for
abbrev pub IsSound : Storage → Type 0
IsSound (Short len literals) = len ≤ 4
IsSound (Long literals) = Unit {0}
