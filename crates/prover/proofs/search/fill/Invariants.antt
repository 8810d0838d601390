use Rattle.std.proofs.Common.{◌≡◌, map}
use Rattle.steal.specs.Supplies.{deques_of}
use Rattle.prover.proofs.search.fill.Given as goal

abbrev pub invariant-loop-place : goal.invariant-loop-place
invariant-loop-place l = map deques_of l.supplies ≡ map deques_of l.fn.supplies
