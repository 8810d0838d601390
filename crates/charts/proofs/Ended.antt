-- A run to its end is a run.
use Rattle.std.proofs.Common.{List, inl, inr}
use Rattle.callorder.specs.Programs.{MpiProgram}
use Rattle.semantics.specs.declared.state.Step.{Step}
use Rattle.semantics.specs.Machine.{IsRun, opening}
use Rattle.charts.specs.Picture.{IsRunToEnd}

pub run_of : (p : MpiProgram) (steps : List Step) → IsRunToEnd p steps → IsRun p (opening p) steps
run_of p steps (inl stuck) = stuck.run
run_of p steps (inr finished) = finished.run
