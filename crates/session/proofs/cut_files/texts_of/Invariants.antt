use Rattle.std.proofs.Common.{List}
use Rattle.session.specs.parts.Phasing.{AreTexts}
use Rattle.session.specs.Phasing.{HaveTexts, Part}
use Rattle.session.proofs.cut_files.texts_of.Given as goal

-- the texts so far
abbrev pub invariant-loop-text : goal.invariant-loop-text
invariant-loop-text l = (parts : List Part) × AreTexts l.folder parts l.made × HaveTexts parts l.yielded
