use Rattle.std.proofs.Common.{◌^◌, ◌<◌, ◌++◌, List, ℕ, arith, ap, ◌∙◌}
use Rattle.plaintext.proofs.Numerals.{decimal-numeral}
use Rattle.plaintext.proofs.numbers.put_number.Goals as goal

pub returns-clause-written : goal.returns-clause-written
returns-clause-written c =
    let small : c.args.number < 2 ^ 64 = omega arith in
    c.in_ok-extend_from_slice.ensures.items ∙ ap (λ (x : List ℕ). c.args.out.now.items ++ x) (c.as_bytes.ensures.value ∙ c.format.ensures.text ∙ decimal-numeral c.args.number small)
