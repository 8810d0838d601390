-- What refutes a program refutes it without the lines that are not needed.
use Rattle.std.proofs.Common.{sym}
use Rattle.callorder.specs.Programs.{MpiProgram}
use Rattle.formula.specs.Numbering.{formula_of}
use Rattle.prooflog.specs.Refutations.{ClaimedRefutation}
use Rattle.prooflog.specs.Trims.{trimmed_of}
use Rattle.prooflog.proofs.TrimLaws.{keeps_accepted}
use Rattle.checker.specs.Verdicts.{IsRefutedBy}

pub refuted_trimmed : (p : MpiProgram) (claim : ClaimedRefutation) → IsRefutedBy p claim → IsRefutedBy p (trimmed_of claim)
refuted_trimmed p claim by =
    let now = keeps_accepted claim (formula_of p) (sym by.counts.variables) (sym by.counts.clauses) by.accepted in
    record {
      counts = record { formula = by.counts.formula; variables = by.counts.variables; clauses = by.counts.clauses };
      accepted = now.0;
      needed = λ two. now.1;
    }
