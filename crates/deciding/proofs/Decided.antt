-- From what is decided of a program to what is decided of its text.
use Rattle.std.proofs.Common.{ℕ, List}
use Rattle.calltext.specs.Grammar.{long}
use Rattle.callorder.specs.Programs.{MpiProgram}
use Rattle.callorder.specs.Resolving.{IsTextOfWithin}
use Rattle.deciding.specs.declared.decision.Decision.{Decision}
use Rattle.deciding.specs.declared.decision.Decision.TheVariants as decisions
use Rattle.deciding.specs.Decisions.{IsDecision, Decides}

pub decides : (bytes : List ℕ) (p : MpiProgram) (d : Decision) → IsTextOfWithin long bytes p → IsDecision p d → Decides bytes d
decides bytes p decisions.NoDeadlock text is = record { p = p; text = text; never = is }
decides bytes p (decisions.Deadlock steps) text is = record { p = p; text = text; stuck = is }
decides bytes p (decisions.Race race) text is = record { p = p; text = text; calls = is }
