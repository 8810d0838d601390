use Rattle.std.proofs.Common.{length}
use Rattle.interning.specs.Places.{IsTable, previous_of}
use Rattle.interning.proofs.TableSteps.{IsLastTable}
use Rattle.interning.proofs.tables.previous_places.Given as goal

abbrev pub invariant-loop-place : goal.invariant-loop-place
invariant-loop-place l = IsLastTable (length l.numbers) l.numbers l.place l.last.items × IsTable l.place (previous_of l.numbers) l.previous.items
