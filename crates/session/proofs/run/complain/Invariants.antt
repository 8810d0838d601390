-- The parts before this one were written.
use Rattle.std.specs.Prelude.{flat_map, take}
use Rattle.std.specs.Io.KnownBytes.{Appends}
use Rattle.session.proofs.run.complain.Given as goal

abbrev pub invariant-loop-part : goal.invariant-loop-part
invariant-loop-part g l =
    Appends (g.E.Write.contents l.fn.err) (g.E.Write.contents l.err) (flat_map (λ part. part.now) (take l.part-index l.parts))
