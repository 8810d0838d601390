use Rattle.std.proofs.Common.{Some, refl, sym}
use Rattle.tree_lines.proofs.Added.{clause_entry}
use Rattle.tree_lines.proofs.joining.leaf_entry.Goals as goal

pub returns-clause-entry : goal.returns-clause-entry
returns-clause-entry c =
    clause_entry c.args.formula.now c.args.lines.now (record { literals = c.in_ok-literals.literals; number = Some c.args.number }) c.in-Some.literals.now c.args.number (c.in_ok-literals.ensures.items_if_clones_equal (λ x y e. e)) refl c.in-Some.ensures.rises c.in-Some.ensures.within (sym c.in-Some.ensures.named) c.requires.number
