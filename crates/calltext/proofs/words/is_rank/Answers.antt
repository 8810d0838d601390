use Rattle.std.proofs.Common.{◌≡◌, arith, ap, sym, eq-eqb}
use Rattle.std.proofs.lemmas.Grind.{common_steps}
use Rattle.std.proofs.lemmas.Bool.{eqb-true}
use Rattle.plaintext.specs.Plain.{numeral}
use Rattle.plaintext.proofs.Numerals.{numeral_injective}
use Rattle.calltext.proofs.words.is_rank.Goals as goal

pub returns-in-Some : goal.returns-in-Some
returns-in-Some c =
    let n = c.in-Some.ensures.some in (
      λ yes.
          let same : n.0 ≡ c.args.rank = omega (arith, eqb-true _ _ yes, n.2) in
          let spelled : numeral c.args.rank ≡ numeral n.0 = ap numeral (sym same) in
          grind (arith, common_steps, n.1, spelled),
      λ e.
          let spelled : numeral c.args.rank ≡ numeral n.0 = grind (arith, common_steps, n.1, e) in
          let same : c.args.rank ≡ n.0 = numeral_injective c.args.rank n.0 spelled in
          eq-eqb _ _ (omega (arith, n.2, same)),
    )

pub returns-in-None : goal.returns-in-None
returns-in-None c = grind (arith, common_steps)

pub returns-in_default : goal.returns-in_default
returns-in_default c = grind (arith, common_steps)

pub returns-in_default-2 : goal.returns-in_default-2
returns-in_default-2 c = grind (arith, common_steps)

pub returns-in_default-3 : goal.returns-in_default-3
returns-in_default-3 c = grind (arith, common_steps)
