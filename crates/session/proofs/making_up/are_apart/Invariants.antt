use Rattle.std.proofs.Common.{◌≡◌, ◌<◌, ℕ, Some, slice_get, length}
use Rattle.session.proofs.MadeUp.{AreNames}
use Rattle.session.proofs.making_up.are_apart.Given as goal

-- the names so far
abbrev pub invariant-loop-text : goal.invariant-loop-text
invariant-loop-text l = AreNames l.texts l.text-index l.names.items
