use Rattle.std.proofs.Common.{sym, ap, ◌∙◌, subst}
use Rattle.formula.specs.Orders.{used_pairs}
use Rattle.formula_tables.specs.Numbers.{IsSmall}
use Rattle.formula_tables.proofs.Limits.{small_from}
use Rattle.encode.proofs.making.formula_over.Goals as goal

pub make-requires-clause-small : goal.make-requires-clause-small
make-requires-clause-small c = subst IsSmall (sym c.requires.one) (small_from c.args.source.now c.requires.few)

pub make-requires-clause-used : goal.make-requires-clause-used
make-requires-clause-used c = c.requires.used ∙ ap used_pairs (sym c.requires.one)
