-- One file more is written.
use Rattle.std.proofs.Common.{◌≡◌, ℕ, List, Some, subst, arith}
use Rattle.files.specs.Contents.{KeepsOthers}
use Rattle.session.proofs.CutFiles.{all_held, file_there, one_more_changed, one_more_held}
use Rattle.session.proofs.cut_files.write_all.Goals as goal

pub returns-in-Err-clause-others : goal.returns-in-Err-clause-others
returns-in-Err-clause-others g c =
    let held = g.F.FileSet.held in
    let outputs = c.args.outputs.now in
    one_more_changed _ (held c.loop-output.files) (held c.write.new.files) c.loop-output.output-index _
    (file_there outputs c.loop-output.output-index c.output-item.result c.loop-output-test.true c.output-item.is)
    (subst (λ (path : List ℕ). KeepsOthers path (held c.loop-output.files) (held c.write.new.files)) c.deref.ensures c.in-Err.ensures.others)
    (held c.args.files.now) c.loop-output.invariant.others

pub loop-output-preserved : goal.loop-output-preserved
loop-output-preserved g c =
    let held = g.F.FileSet.held in
    let outputs = c.args.outputs.now in
    let there = file_there outputs c.loop-output.output-index c.output-item.result c.loop-output-test.true c.output-item.is in
    let keeps = subst (λ (path : List ℕ). KeepsOthers path (held c.loop-output.files) (held c.write.new.files)) c.deref.ensures c.in-Ok.ensures.others in
    record {
      held = λ tells.
          one_more_held _ (held c.loop-output.files) (held c.write.new.files) c.loop-output.output-index _ there keeps c.requires
          (subst (λ (path : List ℕ). held c.write.new.files path ≡ Some c.output-item.result.text) c.deref.ensures (c.in-Ok.ensures.taken tells))
          (c.loop-output.invariant.held tells);
      others = one_more_changed _ (held c.loop-output.files) (held c.write.new.files) c.loop-output.output-index _ there keeps (held c.args.files.now) c.loop-output.invariant.others;
    }

pub returns-clause-held : goal.returns-clause-held
returns-clause-held g c = λ tells.
    all_held c.args.outputs.now (g.F.FileSet.held c.loop-output.files) c.loop-output.output-index (omega (arith, c.loop-output-test.false)) (c.loop-output.invariant.held tells)
