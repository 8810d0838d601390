use Rattle.std.proofs.Common.{◌+◌, ◌≤◌, length}
use Rattle.calltext.specs.Body.{views}
use Rattle.calltext.proofs.BodyLaws.{SoFar}
use Rattle.calltext.proofs.body.ranks_from.Given as goal

abbrev pub invariant-loop-line : goal.invariant-loop-line
invariant-loop-line l = record {
  so_far : SoFar l.limits l.total l.bytes l.rest l.number (views l.ranks.items) l.calls.items;
  room : l.number + length l.rest ≤ 4 + length l.bytes;
}

abbrev pub decreases-loop-line : goal.decreases-loop-line
decreases-loop-line l = length l.rest
