use Rattle.std.proofs.Common.{rules}
use Rattle.pool.proofs.keep.Pool.split_fault.Goals as goal

pub returns-then-has_no_room : goal.returns-then-has_no_room
returns-then-has_no_room c = search rules

pub returns-then-not-is_variable : goal.returns-then-not-is_variable
returns-then-not-is_variable c = search rules

pub returns : goal.returns
returns c = search rules
