use Rattle.std.proofs.Common.{◌≡◌, true}
use Rattle.plaintext.proofs.FirstFaults.{same_line}
use Rattle.plaintext.proofs.laws.one_faulty_line.Goals as goal

pub returns : goal.returns
returns c = λ test. same_line (λ lines. test lines ≡ true)
