use Rattle.std.proofs.Common.{List, ℕ, subst}
use Rattle.std.specs.Prelude.{IfOk}
use Rattle.reports.specs.Explanations.{TellsNumbers}
use Rattle.reports.proofs.Drawn.{sizes_told}
use Rattle.reports.proofs.decided.explain_sizes.Goals as goal

pub returns : goal.returns
returns c =
    let p = c.in_ok-program.program in
    sizes_told c.numbered.result c.args.form c.args.text.now p c.in_ok-program.ensures
    (subst (λ (numbers : List ℕ). IfOk c.numbered.result (λ told. TellsNumbers c.args.form p numbers told.items)) c.in_ok-numbers.ensures c.numbered.ensures)
