use Rattle.std.proofs.Common.{◌≡◌, drop}
use Rattle.unroll.specs.parts.Runs.{seen_run}
use Rattle.unroll.specs.Runs.{put_each}
use Rattle.unroll.proofs.collecting.put_each.Given as goal

-- the calls that are left do what all of them do
abbrev pub invariant-loop-call : goal.invariant-loop-call
invariant-loop-call l = put_each (drop l.call-index l.calls) l.scope l.line (seen_run l.machine) ≡ put_each l.calls l.scope l.line (seen_run l.initial.machine)
