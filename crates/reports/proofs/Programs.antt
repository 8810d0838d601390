-- The program of a text, within the short limits and within the long ones.
use Rattle.std.proofs.Common.{◌≡◌, List, ℕ, arith}
use Rattle.calltext.specs.WiderLimits.{IsWithin}
use Rattle.calltext.specs.Grammar.{long, short}
use Rattle.callorder.specs.Programs.{MpiProgram}
use Rattle.callorder.specs.Resolving.{IsTextOf, IsTextOfWithin}
use Rattle.callorder.proofs.FirstFaults.{same_program_within}

within_long : IsWithin short long
within_long = record { bytes = omega arith; ranks = omega arith; peer = omega arith; tag = omega arith; communicator = omega arith; calls = omega arith }

pub long_text : (bytes : List ℕ) (p : MpiProgram) → IsTextOf bytes p → IsTextOfWithin long bytes p
long_text bytes p is = (same_program_within short long bytes p within_long is).0

pub one_program : (bytes : List ℕ) (p q : MpiProgram) → IsTextOf bytes p → IsTextOfWithin long bytes q → q ≡ p
one_program bytes p q is other = (same_program_within short long bytes p within_long is).1 q other
