-- What hangs within the long limits, and within the short ones.
use Rattle.std.proofs.Common.{◌≡◌, ℕ, List, subst, arith}
use Rattle.calltext.specs.Grammar.{long, short}
use Rattle.callorder.specs.Programs.{MpiProgram}
use Rattle.callorder.specs.Resolving.{IsTextOf, IsTextOfWithin}
use Rattle.callorder.proofs.FirstFaults.{same_program_within}
use Rattle.semantics.specs.Machine.{IsStuckRun}
use Rattle.prover.specs.Answers.{CanHang}
use Rattle.shrinking.specs.Shrinking.{CanHangLong}
use Rattle.shrinking.specs.Laws.{LongHangsAreShort, ShortHangsAreLong}

-- the program of a text within the short limits is its program within the long ones, and no other
-- is
same_long : (text : List ℕ) (p : MpiProgram) → IsTextOf text p → IsTextOfWithin long text p × ((q : MpiProgram) → IsTextOfWithin long text q → q ≡ p)
same_long text p is = same_program_within short long text p (record { bytes = omega arith; ranks = omega arith; peer = omega arith; tag = omega arith; communicator = omega arith; calls = omega arith }) is

pub long_hangs_are_short : LongHangsAreShort
long_hangs_are_short text p is (steps, hangs) = record {
  p = p;
  steps = steps;
  text = is;
  stuck = subst (λ (q : MpiProgram). IsStuckRun q steps) ((same_long text p is).1 hangs.p hangs.text) hangs.stuck;
}

pub short_hangs_are_long : ShortHangsAreLong
short_hangs_are_long text hangs = (hangs.steps, record { p = hangs.p; text = (same_long text hangs.p hangs.text).0; stuck = hangs.stuck })
