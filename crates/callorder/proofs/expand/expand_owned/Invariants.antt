use Rattle.std.proofs.Common.{◌≡◌, length}
use Rattle.calltext.specs.Body.{views}
use Rattle.callorder.specs.Expansion.{parts_of_ranks}
use Rattle.callorder.specs.parts.Tables.{Expands}
use Rattle.callorder.proofs.expand.expand_owned.Given as goal

abbrev pub invariant-loop-lines : goal.invariant-loop-lines
invariant-loop-lines l = Expands l.expansion (parts_of_ranks 0 (views l.yielded)) × (l.rank ≡ length l.yielded)
