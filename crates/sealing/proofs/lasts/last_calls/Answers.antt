use Rattle.std.proofs.Common.{ℕ, List, Option, length, sym, subst}
use Rattle.std.proofs.lemmas.Result.{IfOk-weaker}
use Rattle.interning.specs.LastPlaces.{last_below}
use Rattle.interning.specs.Places.{AreBelow, IsTable, holds_at}
use Rattle.sealing.proofs.Untold.{ranks_below, lasts_so}
use Rattle.sealing.proofs.lasts.last_calls.Goals as goal

pub last_places-requires : goal.last_places-requires
last_places-requires c =
    let p = c.args.program.now in
    let ranks = c.in_ok-ranks.ranks.items in
    subst (λ (z : List (Option ℕ)). AreBelow c.ranks.result z) (sym c.deref.ensures.value)
    (subst (λ (z : ℕ). AreBelow z ranks) (sym c.ranks.ensures.value)
    (ranks_below p ranks c.in_ok-ranks.ensures (λ d call there. (c.ranks.ensures.kept.in_range d call there).own)))

pub returns : goal.returns
returns c =
    let p = c.args.program.now in
    let ranks = c.in_ok-ranks.ranks.items in
    IfOk-weaker c.last_places.result _ _
    (λ lasts table. lasts_so p ranks lasts.items c.ranks.ensures.kept.rank_order c.in_ok-ranks.ensures
    (subst (λ (z : List (Option ℕ)). IsTable p.ranks (λ (rank : ℕ). last_below (holds_at z rank) (length z)) lasts.items) c.deref.ensures.value
    (subst (λ (z : ℕ). IsTable z (λ (rank : ℕ). last_below (holds_at c.deref.result.now rank) (length c.deref.result.now)) lasts.items)
    c.ranks.ensures.value table)))
    c.last_places.ensures
