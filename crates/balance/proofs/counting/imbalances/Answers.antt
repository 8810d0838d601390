use Rattle.std.proofs.Common.{◌≡◌, ℕ, List, Option, length, refl, rules, sym, subst}
use Rattle.std.specs.List.{filter}
use Rattle.std.proofs.lemmas.Fn.{filter_same}
use Rattle.balance.specs.declared.counting.Imbalance.{Imbalance}
use Rattle.balance.specs.Balance.{AreImbalances}
use Rattle.balance.specs.Sides.{AreAllSides}
use Rattle.balance.proofs.Differing.{differ, are_imbalances, same_channels}
use Rattle.balance.proofs.counting.imbalances.Goals as goal

pub returns : goal.returns
returns c =
    let p = c.args.program.now in
    let told = c.in_ok-told.told.items in
    let all : AreAllSides p (length c.in_ok-numbers.numbers.items) c.in_ok-numbers.numbers.items told =
    subst (λ (z : List (Option ℕ)). AreAllSides p (length z) z told) c.deref.ensures.value c.in_ok-told.ensures
    in
    let kept : c.retain.new.self.items ≡ filter differ told = filter_same _ differ _ (λ x b f k. search rules) _ _ c.retain.ensures.filtered in
    subst (λ (z : List Imbalance). AreImbalances p z) (sym kept)
    (are_imbalances p c.in_ok-channels.channels.items c.in_ok-numbers.numbers.items _ (same_channels _ (λ a b. refl)) c.in_ok-numbers.ensures c.in_ok-channels.ensures.size c.in_ok-channels.ensures.each told all)
