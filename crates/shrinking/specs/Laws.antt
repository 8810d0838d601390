-- What hangs within the limits of either function.
use Rattle.std.specs.Prelude.{ℕ, List}
use Rattle.callorder.specs.Programs.{MpiProgram}
use Rattle.callorder.specs.Resolving.{IsTextOf}
use Rattle.prover.specs.Answers.{CanHang}
use Rattle.shrinking.specs.Shrinking.{CanHangLong}

-- a text that hangs within the long limits, and is a program's within the short ones, hangs within
-- these
abbrev pub LongHangsAreShort : Type 0
LongHangsAreShort = (text : List ℕ) (p : MpiProgram) → IsTextOf text p → CanHangLong text → CanHang text

-- a text that hangs within the short limits hangs within the long ones
abbrev pub ShortHangsAreLong : Type 0
ShortHangsAreLong = (text : List ℕ) → CanHang text → CanHangLong text
