-- How walks of a program ended.
use Rattle.std.specs.Prelude.{IsTrue}
use Rattle.callorder.specs.Programs.{MpiProgram}
use Rattle.prover.specs.parts.Searches.{HasRunThatFinishes, HasRunThatSticks}
use Rattle.prover.specs.declared.ends.WalkEnds.{WalkEnds}

-- where some walk is told to have ended stuck, or finished, there is such a run
pub record AreEndsOf (p : MpiProgram) (ends : WalkEnds) : Type 0 where
  pub hangs : IsTrue ends.stuck → HasRunThatSticks p
  pub finishes : IsTrue ends.finished → HasRunThatFinishes p
