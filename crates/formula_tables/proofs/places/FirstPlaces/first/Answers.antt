use Rattle.std.proofs.Common.{sym, ap, ◌∙◌, arith}
use Rattle.formula_tables.specs.Places.{first_place}
use Rattle.formula_tables.proofs.Positions.{first_past}
use Rattle.formula_tables.proofs.places.FirstPlaces.first.Goals as goal

pub returns : goal.returns
returns c =
    let inside = c.self.inside in
    c.len-2.ensures ∙ (inside.numbers.ok.0 ∙ (sym (first_past c.args.number _ inside.numbers.items c.self.invariant.below (omega (arith, c.if-number-len.false, c.len.ensures, inside.firsts.ok.0))) ∙ ap (first_place c.args.number) c.self.view_is))
