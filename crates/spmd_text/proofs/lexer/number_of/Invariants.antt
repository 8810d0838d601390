use Rattle.std.proofs.Common.{◌≡◌, ◌<◌, ◌^◌, drop}
use Rattle.spmd_text.specs.Tokens.{number_from}
use Rattle.spmd_text.proofs.lexer.number_of.Given as goal

-- the digits that are left, behind this value, make the number
abbrev pub invariant-loop-digit : goal.invariant-loop-digit
invariant-loop-digit l =
    record {
      value : number_from l.value (drop l.digit-index l.word) ≡ number_from 0 l.word;
      small : l.value < 2 ^ 63;
    }
