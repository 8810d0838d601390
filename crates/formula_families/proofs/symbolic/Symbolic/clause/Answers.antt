use Rattle.std.proofs.Common.{length, ap, arith}
use Rattle.formula_families.proofs.Cuts.{parts_count}
use Rattle.formula_families.proofs.symbolic.Symbolic.clause.Goals as goal

pub part-requires-clause-inside : goal.part-requires-clause-inside
part-requires-clause-inside g c =
    let s = c.self.inside in
    omega (arith, c.requires, ap length c.self.view_is, parts_count s.entries.items 0 s.ends.items, ap length c.as_slice-2.ensures.value)
