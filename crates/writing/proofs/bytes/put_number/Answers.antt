use Rattle.std.proofs.Common.{◌^◌, ◌<◌, ◌++◌, List, ℕ, arith, ap, ◌∙◌}
use Rattle.plaintext.proofs.Decimals.{decimal_is}
use Rattle.writing.proofs.bytes.put_number.Goals as goal

pub returns : goal.returns
returns c =
    let small : c.args.number < 2 ^ 128 = omega arith in
    c.in_ok-extend_from_slice.ensures.items ∙ ap (λ (x : List ℕ). c.args.out.now.items ++ x) (c.as_bytes.ensures.value ∙ c.format.ensures.text ∙ decimal_is c.args.number small)
