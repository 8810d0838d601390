use Rattle.std.proofs.Common.{◌≡◌, ◌∙◌, ℕ, List, ap, arith, get_or, length}
use Rattle.calltext.proofs.PrintLaws.{spaced_more}
use Rattle.calltext.proofs.printer.put_names.Goals as goal

pub loop-name-preserved : goal.loop-name-preserved
loop-name-preserved c =
    let same : c.as_slice-name-items.result.now ≡ c.args.names.now = c.as_slice-name-items.ensures.value in
    spaced_more c.args.out.now.items c.loop-name.out.items c.put_name.new.out.items c.args.names.now c.loop-name.name-index c.name-item.result (omega (arith, ap length same, c.loop-name-test.true))
    (c.name-item.is ∙ ap (λ (names : List (List ℕ)). get_or names c.loop-name.name-index c.name-item.result) same) c.loop-name.invariant c.in_ok-put_name.ensures
