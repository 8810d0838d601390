use Rattle.std.proofs.Common.{ℕ, ◌-◌, length, get_or, take, drop, sym, ap, ◌∙◌, arith}
use Rattle.formula_families.proofs.Cuts.{part_at, part_in}
use Rattle.formula_families.proofs.symbolic.part.Goals as goal

pub between-requires-clause-rise : goal.between-requires-clause-rise
between-requires-clause-rise g c =
    let inside = part_in 0 (length c.args.entries.now) c.args.ends.now c.args.place c.requires.ends c.requires.inside in
    omega (arith, c.start.ensures, inside.0)

pub between-requires-clause-within : goal.between-requires-clause-within
between-requires-clause-within g c = (part_in 0 (length c.args.entries.now) c.args.ends.now c.args.place c.requires.ends c.requires.inside).1

pub returns : goal.returns
returns g c =
    let entries = c.args.entries.now in
    let ends = c.args.ends.now in
    let end = get_or ends c.args.place 0 in
    c.between.ensures ∙ (ap (λ (z : ℕ). take (end - z) (drop z entries)) c.start.ensures ∙ sym (part_at entries 0 ends c.args.place c.requires.inside))
