use Rattle.spmd_text.proofs.Refusals as refusals
use Rattle.spmd_text.proofs.laws.piece_faults_are_told.Goals as goal

pub returns : goal.returns
returns c = refusals.piece_faults_are_told
