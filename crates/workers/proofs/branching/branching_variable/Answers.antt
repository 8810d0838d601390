use Rattle.std.proofs.Common.{sym}
use Rattle.std.specs.List.{range_with_len}
use Rattle.workers.specs.parts.Branching.{is_free}
use Rattle.workers.proofs.FirstFree.{found_first, found_second}
use Rattle.workers.proofs.branching.branching_variable.Goals as goal

pub returns-in-Some : goal.returns-in-Some
returns-in-Some c =
    found_first (is_free c.args.path.now) c.args.variables.now (range_with_len 1 c.args.count) c.in-Some.variable (sym c.in-Some.ensures)

pub returns-in-None : goal.returns-in-None
returns-in-None c =
    found_second (is_free c.args.path.now) c.args.variables.now (range_with_len 1 c.args.count) c.first_below.result (sym c.in-None.ensures) c.first_below.ensures
