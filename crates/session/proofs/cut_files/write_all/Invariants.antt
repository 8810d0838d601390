use Rattle.std.specs.Prelude.{IsTrue}
use Rattle.session.specs.parts.Phasing.{files_of}
use Rattle.session.specs.Phasing.{ChangesThese}
use Rattle.session.proofs.CutFiles.{HoldBelow}
use Rattle.session.proofs.cut_files.write_all.Given as goal

-- the files so far have their texts
abbrev pub invariant-loop-output : goal.invariant-loop-output
invariant-loop-output g l =
    record {
      held : IsTrue g.F.FileSet.tells_written → HoldBelow l.output-index (files_of l.outputs) (g.F.FileSet.held l.files);
      others : ChangesThese (files_of l.outputs) (g.F.FileSet.held l.fn.files) (g.F.FileSet.held l.files);
    }
