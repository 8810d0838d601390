use Rattle.std.proofs.Common.{map, arith, drop}
use Rattle.std.proofs.lemmas.Grind.{common_steps}
use Rattle.calltext.proofs.line.refused_in.Goals as goal

pub returns-clause-some : goal.returns-clause-some
returns-clause-some c = let found = c.in_ok-word.ensures.some in (found.0, map (λ x. x.now) (drop 1 c.args.words.now), grind (arith, common_steps, found.1))
