-- A program that is refuted has no run that ends stuck.
use Rattle.std.proofs.Common.{◌≡◌, ℕ, List, sym, subst}
use Rattle.callorder.specs.ProgramRules.{IsProgram}
use Rattle.callorder.specs.Programs.{MpiProgram}
use Rattle.callorder.specs.Resolving.{IsTextOf}
use Rattle.callorder.proofs.FirstFaults.{one_program_of_bytes}
use Rattle.calltext.specs.Grammar.{short}
use Rattle.callorder.proofs.ProgramsMade.{expansion_is_program}
use Rattle.formula.specs.Numbering.{formula_of}
use Rattle.semantics.specs.Machine.{IsStuckRun}
use Rattle.refutations.proofs.Covers.{accepted-refute}
use Rattle.formula_from_run.proofs.Assignments.{unsatisfiable_have_no_stuck_run}
use Rattle.checker.specs.declared.reason.Verdict.{Verdict}
use Rattle.checker.specs.declared.reason.Verdict.TheVariants as verdicts
use Rattle.checker.specs.Verdicts.{IsVerdict, Judges, NeverBoth, RefutedAreNeverStuck}
use Rattle.checker.proofs.OneVerdicts.{right_or_memory}

pub is_program : (program : List ℕ) (p : MpiProgram) → IsTextOf program p → IsProgram p
is_program program p of =
    subst IsProgram (sym of.is_program.is) (expansion_is_program short of.text of.is_text.fits.some of.is_text.fits.ranks of.is_program.no_fault)

pub refuted_are_never_stuck : RefutedAreNeverStuck
refuted_are_never_stuck program evidence r = record {
  p = r.p;
  text = r.text;
  never = unsatisfiable_have_no_stuck_run r.p (is_program program r.p r.text) (accepted-refute (formula_of r.p) r.claim.lines r.claim.nodes r.holds.accepted);
}

pub never_both : NeverBoth
never_both program evidence other refutes shows =
    let never = refuted_are_never_stuck program evidence refutes in
    let same : shows.p ≡ never.p = one_program_of_bytes program shows.p never.p shows.text never.text in
    never.never shows.steps (subst (λ (p : MpiProgram). IsStuckRun p shows.steps) same shows.stuck)

-- what each right verdict promises
pub is_verdict : (program evidence : List ℕ) (v : Verdict) → Judges program evidence v → IsVerdict program evidence v
is_verdict program evidence v judges = record {
  no_deadlock = λ e. refuted_are_never_stuck program evidence (subst (Judges program evidence) e judges);
  deadlock = λ e. subst (Judges program evidence) e judges;
  no_deadlock_only = λ refutes. right_or_memory program evidence v verdicts.NoDeadlock judges refutes (λ e. cc);
  deadlock_only = λ shows. right_or_memory program evidence v verdicts.Deadlock judges shows (λ e. cc);
  judges = judges;
}
