use Rattle.std.proofs.Common.{◌≡◌, ◌++◌, take}
use Rattle.formula.specs.Numbering.{meanings}
use Rattle.exports.specs.Dimacs.{comment_lines}
use Rattle.exports.proofs.comments.put_comments.Given as goal

abbrev pub invariant-loop-place : goal.invariant-loop-place
invariant-loop-place l = l.out.items ≡ l.fn.out.items ++ comment_lines l.encoded.program 1 (take l.place (meanings l.encoded.program))
