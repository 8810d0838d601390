use Rattle.std.proofs.Common.{◌≡◌, ℕ, length}
use Rattle.waits.specs.Cycles.{HasEdge}
use Rattle.scene.proofs.lasting.lasting_edges.Given as goal

abbrev pub invariant-loop-rank : goal.invariant-loop-rank
invariant-loop-rank l = record {
  size : length l.lasting.items ≡ l.rank;
  within : (from to : ℕ) → HasEdge l.lasting.items from to → HasEdge l.awaited from to;
}
