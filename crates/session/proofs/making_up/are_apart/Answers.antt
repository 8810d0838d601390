use Rattle.std.proofs.Common.{◌≡◌, ◌<◌, ℕ, List, Option, Some, length, slice_get, arith, subst}
use Rattle.std.proofs.lemmas.Slice.Eq.{bytes_eq-Decides}
use Rattle.session.proofs.MadeUp.{apart_by}
use Rattle.session.proofs.making_up.are_apart.Goals as goal

pub returns : goal.returns
returns c = λ is.
    apart_by _ (λ a b e. (bytes_eq-Decides a.now b.now).1 e) c.args.texts.now c.loop-text.names.items c.in_ok-numbers.numbers.items c.loop-text.text-index c.loop-text.invariant
    (omega (arith, c.loop-text-test.false)) c.in_ok-numbers.ensures
    (subst (λ (ns : List (Option ℕ)). (place : ℕ) → place < length ns → slice_get ns place ≡ Some (Some place)) c.deref.ensures.value (c.are_places.ensures is))
