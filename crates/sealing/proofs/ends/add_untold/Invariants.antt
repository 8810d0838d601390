use Rattle.sealing.specs.parts.Ends.{GainsEntries, IsUntoldBelow}
use Rattle.sealing.proofs.ends.add_untold.Given as goal

abbrev pub invariant-loop-source : goal.invariant-loop-source
invariant-loop-source l = GainsEntries l.fn.loose.items l.loose.items (IsUntoldBelow l.program l.findings l.known l.finder l.source)
