use Rattle.std.proofs.Common.{◌≡◌, ◌++◌, ◌∷◌, [], take}
use Rattle.std.specs.List.{flat_map}
use Rattle.prooflog.specs.Refutations.{literal_word}
use Rattle.exports.proofs.dimacs.put_literals.Given as goal

abbrev pub invariant-loop-literal : goal.invariant-loop-literal
invariant-loop-literal l = l.out.items ≡ l.fn.out.items ++ flat_map (λ x. literal_word x ++ 32 ∷ []) (take l.literal-index l.literals)
