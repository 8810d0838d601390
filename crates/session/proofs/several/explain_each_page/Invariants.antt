use Rattle.std.proofs.Common.{◌≡◌, map, take}
use Rattle.session.specs.Several.{ArePathsAnswered, IsExplainedIn}
use Rattle.session.proofs.several.explain_each_page.Given as goal

-- the programs so far are answered, and files are as they were
abbrev pub invariant-loop-path : goal.invariant-loop-path
invariant-loop-path g l =
    (g.F.FileSet.held l.files ≡ g.F.FileSet.held l.fn.files) × (g.F.FileSet.reads l.files ≡ g.F.FileSet.reads l.fn.files)
    × ArePathsAnswered (IsExplainedIn (g.F.FileSet.held l.fn.files) l.asked.options.budget l.asked.form) (l.asked.form) (map (λ p. p.now) (take l.path-index l.asked.programs.items)) l.answers
