use Rattle.std.proofs.Common.{ap, sym}
use Rattle.junit.specs.Report.{first_of_lines}
use Rattle.junit.proofs.Lines.{first_line_is}
use Rattle.junit.proofs.report.first_line.Goals as goal

pub returns-in-None : goal.returns-in-None
returns-in-None c = sym (ap first_of_lines c.in-None.ensures.none)

pub returns-in-Some : goal.returns-in-Some
returns-in-Some c = first_line_is c.args.text.now c.in-Some.line.now c.before.in-Some._behind.now c.in-Some.ensures.some
