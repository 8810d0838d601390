use Rattle.std.proofs.Common.{◌++◌, length, sym, subst}
use Rattle.std.specs.List.{flat_map}
use Rattle.formula.specs.Families.{events}
use Rattle.formula.specs.Orders.{places_in}
use Rattle.formula_families.specs.parts.Blocks.{AreMarks}
use Rattle.formula_families.proofs.used.mark_block.Goals as goal

pub returns : goal.returns
returns c =
    let p = c.args.source.now in
    let made = c.put_block.new.clauses in
    let new = c.mark_clauses.new.marks in
    λ orders h.
    let before = subst (λ z. AreMarks (length (events z)) orders c.args.marks.now) (sym c.requires.one) h in
    let after = subst (λ z. AreMarks (length (events z)) (orders ++ flat_map (flat_map (places_in z)) made) new) c.requires.one (c.mark_clauses.ensures orders before) in
    subst (λ l. AreMarks (length (events p)) (orders ++ flat_map (flat_map (places_in p)) l) new) c.in_ok-put_block.ensures after
