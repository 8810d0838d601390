use Rattle.std.proofs.Common.{◌-◌, ◌<◌, ◌/◌, ◌%◌, refl, sym, ap, ◌∙◌, arith}
use Rattle.std.specs.Prelude.{Some}
use Rattle.std.proofs.lemmas.Nat.{div-add-mod'}
use Rattle.std.proofs.lemmas.Option.{slice_get_past, slice_get_read}
use Rattle.formula_tables.proofs.MeaningPlaces.{bit_at_place, pair_at_place, pair_there, pair_not_there}
use Rattle.formula_tables.proofs.meanings.of_order.Goals as goal

pub returns-then-block-events : goal.returns-then-block-events
returns-then-block-events c =
    let size = c.args.size in
    let place = c.args.place in
    let within : place % size < size = omega (arith, c.requires) in
    sym (bit_at_place size c.args.events c.args.used.now place (place / size) (place % size) c.if-block-events.true within (sym (div-add-mod' place size)))

pub returns-in-None : goal.returns-in-None
returns-in-None c =
    let size = c.args.size in
    let place = c.args.place in
    let used = c.args.used.now in
    let within : place % size < size = omega (arith, c.requires) in
    let at = place / size - c.args.events in
    let there = pair_at_place size c.args.events used place (place / size) (place % size) c.if-block-events.false within (sym (div-add-mod' place size)) in
    sym (there ∙ pair_not_there size _ (place % size) (slice_get_past used at c.in-None.ensures.lookup.3))

pub returns-in-Some : goal.returns-in-Some
returns-in-Some c =
    let size = c.args.size in
    let place = c.args.place in
    let used = c.args.used.now in
    let within : place % size < size = omega (arith, c.requires) in
    let at = place / size - c.args.events in
    let pair = c.in-Some.pair.now in
    let found = c.in-Some.ensures.lookup.3 in
    let there = pair_at_place size c.args.events used place (place / size) (place % size) c.if-block-events.false within (sym (div-add-mod' place size)) in
    sym (there ∙ pair_there size _ pair (place % size) (slice_get_read used _ at pair refl found.0 (found.1 pair)) within ∙ ap (λ m. Some m) (sym c.of_pair.ensures))
