use Rattle.std.proofs.Common.{◌-◌, arith}
use Rattle.tree_lines.proofs.Added.{line_numbered, line_within}
use Rattle.tree_lines.proofs.joining.literals_of.Goals as goal

pub returns-clause-named : goal.returns-clause-named
returns-clause-named c =
    let found = c.in_ok-line.ensures.lookup in
    line_numbered c.args.formula.now c.args.lines.now c.args.number c.len.result (c.args.number - c.len-2.result - 1) c.in_ok-line.line.now c.literals-2.result.now c.len.ensures c.if-number-len.false (omega arith) found.3.0 found.1 c.literals-2.ensures.same

pub returns-clause-within : goal.returns-clause-within
returns-clause-within c =
    let found = c.in_ok-line.ensures.lookup in
    line_within c.args.formula.now c.args.lines.now (c.args.number - c.len-2.result - 1) c.in_ok-line.line.now c.literals-2.result.now c.requires found.3.0 found.1 c.literals-2.ensures.same
