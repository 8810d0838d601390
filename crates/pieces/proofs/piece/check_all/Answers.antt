use Rattle.pieces.proofs.Joins.{one_piece}
use Rattle.pieces.proofs.piece.check_all.Goals as goal

pub returns : goal.returns
returns c = one_piece c.args.formula.now c.args.lines.now c.check_piece.result c.check_piece.ensures
