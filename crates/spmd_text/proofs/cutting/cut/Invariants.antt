use Rattle.std.proofs.Common.{◌≡◌, drop}
use Rattle.spmd_text.specs.parts.Tokens.{seen}
use Rattle.spmd_text.specs.Tokens.{feed_all, pieces_of}
use Rattle.spmd_text.proofs.cutting.cut.Given as goal

-- the bytes that are left do what all bytes do
abbrev pub invariant-loop-byte : goal.invariant-loop-byte
invariant-loop-byte l = feed_all (drop l.byte-index l.bytes) (seen l.lexer) ≡ pieces_of l.bytes
