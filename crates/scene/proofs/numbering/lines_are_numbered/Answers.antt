use Rattle.scene.proofs.LineNumbers as numbers
use Rattle.scene.proofs.numbering.lines_are_numbered.Goals as goal

pub returns : goal.returns
returns c = numbers.lines_are_numbered
