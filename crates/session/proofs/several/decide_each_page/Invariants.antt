use Rattle.std.proofs.Common.{◌≡◌, map, take}
use Rattle.session.specs.Several.{ArePathsAnswered, IsDecidedIn}
use Rattle.session.specs.Sweeping.{form_of_answer}
use Rattle.session.proofs.several.decide_each_page.Given as goal

-- the programs so far are answered, and files are as they were
abbrev pub invariant-loop-path : goal.invariant-loop-path
invariant-loop-path g l =
    (g.F.FileSet.held l.files ≡ g.F.FileSet.held l.fn.files) × (g.F.FileSet.reads l.files ≡ g.F.FileSet.reads l.fn.files)
    × ArePathsAnswered (IsDecidedIn (g.F.FileSet.held l.fn.files) l.asked.json) (form_of_answer l.asked.json) (map (λ p. p.now) (take l.path-index l.asked.programs.items)) l.answers
