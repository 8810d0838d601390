use Rattle.std.proofs.Common.{◌≡◌, drop}
use Rattle.spmd_program.specs.Requests.{call_of_line}
use Rattle.spmd_program.proofs.requests.call_at.Given as goal

-- the calls that are left answer as all do
abbrev pub invariant-loop-placed : goal.invariant-loop-placed
invariant-loop-placed l = call_of_line (drop l.placed-index l.calls) l.rank l.left ≡ call_of_line l.calls l.rank l.place
