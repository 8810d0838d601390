use Rattle.std.proofs.Common.{◌*◌, ap, ◌∙◌, length, arith}
use Rattle.formula.specs.Families.{events}
use Rattle.formula.specs.Orders.{used_pairs}
use Rattle.formula_tables.proofs.VariableNumbers.{meanings_count}
use Rattle.formula_tables.proofs.variables.Variables.count.Goals as goal

pub returns-clause-same : goal.returns-clause-same
returns-clause-same c =
    let p = c.args.self.now in
    let first = ap (λ n. n * c.clock_size-size.result) c.event_count.ensures.same ∙ ap (λ n. length (events p) * n) c.clock_size-size.ensures.same in
    let second = ap (λ n. n * c.clock_size-size.result) c.used_count.ensures.same ∙ ap (λ n. length (used_pairs p) * n) c.clock_size-size.ensures.same in
    omega (arith, meanings_count p, first, second, c.fact_count.ensures.same)
