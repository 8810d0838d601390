use Rattle.interning.proofs.TableSteps.{IsLastTable}
use Rattle.interning.proofs.tables.last_places.Given as goal

abbrev pub invariant-loop-place : goal.invariant-loop-place
invariant-loop-place l = IsLastTable l.bound l.numbers l.place l.last.items
