-- What inner functions promise one another, beside `specs/Knowledge.antt`.
use Rattle.std.specs.Prelude.{ℕ, suc, Bool, true, false, IsTrue, List, [], ◌∷◌}
use Rattle.callorder.specs.Programs.{MpiProgram}
use Rattle.semantics.specs.Machine.{Configuration}
use Rattle.races.specs.Tells.{Table, tells_issue, IsJustified}
use Rattle.knowledge.specs.Knowledge.{column_table, entry_at}

-- how many entries are true
abbrev pub count_known : List Bool → ℕ
count_known [] = 0
count_known (true ∷ known) = suc (count_known known)
count_known (false ∷ known) = count_known known

-- what the table knows of the finder, the column does too
abbrev pub Covers : ℕ → List Bool → Table → Type 0
Covers finder known knows = (c : ℕ) → IsTrue (knows c finder) → IsTrue (column_table finder known c finder)

-- so of each justified table
abbrev pub CoversJustified : MpiProgram → Configuration → ℕ → List Bool → Type 0
CoversJustified p e finder known = (knows : Table) → IsJustified p e knows → Covers finder known knows

-- the entry at the call, where it is true, follows from the column
abbrev pub FollowsFromColumn : MpiProgram → Configuration → ℕ → List Bool → ℕ → Type 0
FollowsFromColumn p e finder known c = IsTrue (entry_at known c) → IsTrue (tells_issue p e (column_table finder known) c finder)
