-- What was read so far the reader has lost.
use Rattle.std.specs.Io.KnownBytes.{Consumes}
use Rattle.files.proofs.contents.load.Given as goal

abbrev pub invariant-loop : goal.invariant-loop
invariant-loop g l = Consumes (g.R.Read.remaining l.initial.reader) (g.R.Read.remaining l.reader) l.bytes.items
