use Rattle.std.proofs.Common.{subst}
use Rattle.callorder.specs.ProgramRules.{IsProgram}
use Rattle.clauses.specs.Clauses.{Conjunction, IsUnsatisfiable}
use Rattle.finishing.proofs.Sticking as sticking
use Rattle.finishing.proofs.searching.judge_found.Goals as goal

pub returns-then-refuted : goal.returns-then-refuted
returns-then-refuted c =
    let is = subst IsProgram c.program.ensures.same c.calls-calls.ensures.kept in
    let none = subst (λ (f : Conjunction). IsUnsatisfiable f.clauses) c.requires.formula (c.in_ok-refuted-in-Closed.ensures c.if-refuted.true) in
    sticking.unsatisfiable_get_stuck c.args.encoded.now.program is none
