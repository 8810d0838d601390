use Rattle.std.proofs.Common.{arith}
use Rattle.tree_lines.proofs.Added.{joins_line, joins_push}
use Rattle.tree_lines.proofs.joining.close.Goals as goal

pub returns-then-number-len : goal.returns-then-number-len
returns-then-number-len c =
    joins_line c.args.formula.now c.args.lines.now c.args.added.now.items c.args.number c.requires.empty (omega arith) c.requires.derived

pub returns : goal.returns
returns c =
    joins_push c.args.formula.now c.args.lines.now c.args.added.now.items c.push.new.self.items c.in-Ok.line c.args.number c.requires.empty c.requires.derived c.in-Ok.ensures.made c.in_ok-push.ensures.items
