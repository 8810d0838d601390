use Rattle.std.proofs.Common.{refl}
use Rattle.refutations.proofs.Covers.{accepted-refute}
use Rattle.finishing.proofs.checking.is_closed.Goals as goal

pub returns-in-Ok-check_tree : goal.returns-in-Ok-check_tree
returns-in-Ok-check_tree c =
    λ _. accepted-refute c.args.formula.now c.args.lines.now c.in-Ok.tree (record { lines_derived = c.requires; tree = c.in-Ok-check_tree.ensures.accepted refl })
