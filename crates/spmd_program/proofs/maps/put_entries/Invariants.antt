use Rattle.std.proofs.Common.{◌≡◌, ◌≤◌, ◌++◌, drop}
use Rattle.spmd_program.specs.Entries.{entries_of}
use Rattle.spmd_program.proofs.maps.put_entries.Given as goal

-- the entries so far, and those that are left
abbrev pub invariant-loop-placed : goal.invariant-loop-placed
invariant-loop-placed l = record {
  few : l.place ≤ l.placed-index;
  text : l.out.items ++ entries_of l.sources l.place (drop l.placed-index l.calls) ≡ l.fn.out.items ++ entries_of l.sources 0 l.calls;
}
