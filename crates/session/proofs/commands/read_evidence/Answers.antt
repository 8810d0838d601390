-- What was read stands for the whole content.
use Rattle.files.specs.Contents.{AreEnough}
use Rattle.files.specs.declared.extent.Extent.TheVariants.{Begins}
use Rattle.session.proofs.StandIns.{evidence_front, evidence_stands, if_read}
use Rattle.session.proofs.commands.read_evidence.Goals as goal

pub returns-clause-bytes : goal.returns-clause-bytes
returns-clause-bytes g c =
    let held = g.F.FileSet.held c.args.files.now c.args.path.now in
    if_read c.read.result (AreEnough (Begins evidence_front) held) _ (evidence_stands held) c.read.ensures.bytes
