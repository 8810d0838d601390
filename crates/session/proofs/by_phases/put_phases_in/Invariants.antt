use Rattle.std.proofs.Common.{◌≡◌}
use Rattle.session.proofs.by_phases.put_phases_in.Given as goal

-- files are as they were
abbrev pub invariant-loop-place : goal.invariant-loop-place
invariant-loop-place g l = (g.F.FileSet.held l.files ≡ g.F.FileSet.held l.fn.files) × (g.F.FileSet.reads l.files ≡ g.F.FileSet.reads l.fn.files)
