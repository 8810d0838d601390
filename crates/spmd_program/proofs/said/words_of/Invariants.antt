use Rattle.std.proofs.Common.{◌≡◌, ◌++◌, drop}
use Rattle.spmd_program.specs.Maps.{words_from, words_of_line}
use Rattle.spmd_program.proofs.said.words_of.Given as goal

-- the words so far, and those that are left
abbrev pub invariant-loop-byte : goal.invariant-loop-byte
invariant-loop-byte l = l.out.items ++ words_from l.begun l.blank (drop l.byte-index l.line) ≡ words_of_line l.line
